-- Rules that are judged one after the other, and what holds where all of them found nothing.
use Rattle.std.proofs.Common.{◌≡◌, ◌⊎◌, ◌↔◌, ◌<◌, ℕ, zero, suc, Bool, true, false, List, [], length, inl, inr, refl, ap, subst, arith, ⊎_elim}
use Rattle.std.specs.Prelude.{Contains, IsTrue}
use Rattle.std.specs.List.{flat_map}
use Rattle.fsck_list.specs.declared.finding.Finding.{Finding as Listed}
use Rattle.hfs_volume.specs.Records.{entries_of}
use Rattle.volume_header.specs.declared.header.VolumeHeader.{VolumeHeader}
use Rattle.hfs_volume.specs.Blocks.{IsGoodHeader, AgreesWith, HasFiles}
use Rattle.hfs_volume.specs.Content.{VolumeState, records_of}
use Rattle.hfs_volume.specs.Sound.{IsSoundVolume}
use Rattle.hfs_volume.specs.Broken.{Finding, Want, AllMet, IsUnmet, valence_wants, count_wants, bit_wants, free_wants}
use Rattle.hfs_volume.proofs.EntryWants.{entries_hold}
use Rattle.hfs_volume.proofs.BlockWants.{bits_hold}
use Rattle.fsck_core.specs.Wants.{as_found}
use Rattle.fsck_core.specs.Decided.{Decided}
use Rattle.fsck_core.specs.Judged.{Judged}
use Rattle.fsck_core.specs.Passed.{Passed, IsBrokenList, ListsLate, HaveCounts, KeepLists}
use Rattle.fsck_core.proofs.EntryLaws.{judged_found, stays}
use Rattle.fsck_core.proofs.ToldLaws.{told_some}

-- ---- one part, and the next

-- what a part that tells whether it holds has done
pub passed_met : (Broken : Finding → Type 0) (P : Type 0) (old new : List Listed) (met : Bool) → IsTrue met ↔ P → (met ≡ false → 0 < length new) → (0 < length old → 0 < length new)
    → ((f : Listed) → Contains new f → Contains old f ⊎ Broken (as_found f)) → Passed Broken P old new
passed_met Broken P old new met tells found still each = record { holds = λ none. by met refl none; still = still; each = each }
  where
    by : (m : Bool) → met ≡ m → length new ≡ 0 → P
    by true is none = tells.0 is
    by false is none = absurd (omega (arith, none, found is))

pub passed_judged : (Broken : Finding → Type 0) (rule : ℕ) (ws : List Want) (old new : List Listed) (met : Bool) → ((f : Finding) → IsUnmet rule f ws → Broken f) → Judged rule ws old new met → Passed Broken (AllMet ws) old new
passed_judged Broken rule ws old new met broken judged = passed_met Broken (AllMet ws) old new met judged.tells (judged_found rule ws old new met judged) (stays old new judged.still)
    (λ f stands. ⊎_elim (λ (before : Contains old f). inl before) (λ (unmet : IsUnmet rule (as_found f) ws). inr (broken (as_found f) unmet)) (judged.each f stands))

pub passed_decided : (Broken Says : Finding → Type 0) (P : Type 0) (old new : List Listed) (met : Bool) → ((f : Finding) → Says f → Broken f) → Decided Says P old new met → Passed Broken P old new
passed_decided Broken Says P old new met broken decided = passed_met Broken P old new met decided.tells (λ fails. told_some Says new (decided.found fails)) (stays old new decided.still)
    (λ f stands. ⊎_elim (λ (before : Contains old f). inl before) (λ (says : Says (as_found f)). inr (broken (as_found f) says)) (decided.each f stands))

pub passed_both : (Broken : Finding → Type 0) (P Q : Type 0) (old mid new : List Listed) → Passed Broken P old mid → Passed Broken Q mid new → Passed Broken (P × Q) old new
passed_both Broken P Q old mid new first second = record {
  holds = λ none. (first.holds (before none (length mid) refl), second.holds none);
  still = λ some. second.still (first.still some);
  each = λ f stands. ⊎_elim (λ (there : Contains mid f). first.each f there) (λ (broken : Broken (as_found f)). inr broken) (second.each f stands);
}
  where
    before : length new ≡ 0 → (n : ℕ) → length mid ≡ n → length mid ≡ 0
    before none zero is = is
    before none (suc n) is = absurd (let more : 0 < length new = second.still (omega (arith, is)) in omega (arith, none, more))

pub passed_as : (Broken : Finding → Type 0) (P Q : Type 0) (old new : List Listed) → (P → Q) → Passed Broken P old new → Passed Broken Q old new
passed_as Broken P Q old new to passed = record { holds = λ none. to (passed.holds none); still = passed.still; each = passed.each }

-- where something was found nothing is said of the rest
pub passed_over : (Broken : Finding → Type 0) (P Q : Type 0) (old new : List Listed) → 0 < length new → Passed Broken P old new → Passed Broken Q old new
passed_over Broken P Q old new some passed = record { holds = λ none. absurd (omega (arith, none, some)); still = passed.still; each = passed.each }

-- of a part that begins with nothing
pub passed_first : (Broken : Finding → Type 0) (P : Type 0) (old new : List Listed) (met : Bool) → old ≡ [] → IsTrue met ↔ P → (met ≡ false → 0 < length new)
    → ((f : Listed) → Contains new f → Contains old f ⊎ Broken (as_found f)) → Passed Broken P old new
passed_first Broken P old new met none tells found each = passed_met Broken P old new met tells found (λ some. absurd (let no : length old ≡ 0 = ap (λ (l : List Listed). length l) none in omega (arith, some, no))) each

-- ---- rules 11 to 14

module _ (volume : VolumeState) (first second third fourth last : List Listed) (valences counts bits free : Bool)
    (of_valences : Judged 11 (flat_map (valence_wants (entries_of (records_of volume))) (entries_of (records_of volume))) first second valences)
    (of_counts : Judged 12 (count_wants volume.head (entries_of (records_of volume))) second third counts)
    (of_bits : Judged 13 (bit_wants volume) third fourth bits) (of_free : Judged 14 (free_wants volume) fourth last free)
  where
    pub late_passed : Passed (IsBrokenList volume) (HaveCounts volume) first last
    late_passed = passed_as (IsBrokenList volume) _ (HaveCounts volume) first last (λ all. record { valences = all.0.0.0; counts = all.0.0.1; bits = all.0.1; free = all.1 })
        (passed_both (IsBrokenList volume) _ _ first fourth last
        (passed_both (IsBrokenList volume) _ _ first third fourth
        (passed_both (IsBrokenList volume) _ _ first second third
        (passed_judged (IsBrokenList volume) 11 (flat_map (valence_wants (entries_of (records_of volume))) (entries_of (records_of volume))) first second valences (λ f unmet. inl (inr (inr (inr (inl unmet))))) of_valences)
        (passed_judged (IsBrokenList volume) 12 (count_wants volume.head (entries_of (records_of volume))) second third counts (λ f unmet. inl (inr (inr (inr (inr (inl unmet)))))) of_counts))
        (passed_judged (IsBrokenList volume) 13 (bit_wants volume) third fourth bits (λ f unmet. inr (inr (inr (inr (inr (inl unmet)))))) of_bits))
        (passed_judged (IsBrokenList volume) 14 (free_wants volume) fourth last free (λ f unmet. inr (inr (inr (inr (inr (inr (inl unmet))))))) of_free))

    pub late_listed : ListsLate volume last
    late_listed f (inl unmet) = of_free.still f (of_bits.still f (of_counts.still f (of_valences.listed f unmet)))
    late_listed f (inr (inl unmet)) = of_free.still f (of_bits.still f (of_counts.listed f unmet))
    late_listed f (inr (inr (inl unmet))) = of_free.still f (of_bits.listed f unmet)
    late_listed f (inr (inr (inr unmet))) = of_free.listed f unmet

pub counts_under : (volume : VolumeState) (head : VolumeHeader) (old new : List Listed) (met : Bool) → head ≡ volume.head → Judged 12 (count_wants head (entries_of (records_of volume))) old new met
    → Judged 12 (count_wants volume.head (entries_of (records_of volume))) old new met
counts_under volume head old new met is judged = subst (λ (h : VolumeHeader). Judged 12 (count_wants h (entries_of (records_of volume))) old new met) is judged

-- ---- all rules

-- where rules 1 to 3 hold and the lists keep rules 8 to 20, they are those of a sound volume
pub lists_are_sound : (volume : VolumeState) → IsGoodHeader volume.sectors volume.head → AgreesWith volume.head volume.alternate → HasFiles volume → KeepLists volume → IsSoundVolume volume
lists_are_sound volume header alternate files keep = record {
  entries = entries_hold volume.head volume.catalog_pairs keep.threads keep.rooted keep.counts.valences keep.counts.counts keep.ids;
  links = keep.names.links;
  attributes = keep.names.attributes.attributes;
  blocks = record {
    header = header;
    alternate = alternate;
    files = files;
    forks = record {
      sizes = keep.forks.sizes;
      more_inside = keep.forks.more_inside;
      goes_on = keep.forks.goes_on;
      bad_goes_on = keep.forks.bad_goes_on;
      owned = keep.forks.owned;
      values = keep.names.attributes.sizes;
      once = keep.once;
    };
    bits = bits_hold volume keep.counts.bits keep.counts.free;
  };
}
