-- The volume header and its alternate, judged one after the other.
use Rattle.std.proofs.Common.{◌≡◌, ◌↔◌, ◌<◌, ℕ, ◌-◌, Bool, true, false, List, [], length, inl, inr, refl, sym, ◌∙◌, subst, arith, ⊎_elim, IsTrue}
use Rattle.std.specs.Prelude.{Contains}
use Rattle.volume_header.specs.Refusal.{is_volume_size}
use Rattle.volume_header.specs.declared.header.VolumeHeader.{VolumeHeader}
use Rattle.fsck_list.specs.declared.finding.Finding.{Finding as Listed}
use Rattle.fsck_list.specs.Kept.{IsListed}
use Rattle.hfs_volume.specs.Blocks.{IsGoodHeader, AgreesWith}
use Rattle.hfs_volume.specs.Broken.{Want, AllMet, IsUnmet, header_wants, alternate_wants}
use Rattle.hfs_volume.proofs.HeaderWants.{header_holds}
use Rattle.hfs_volume.proofs.BlockWants.{alternate_holds}
use Rattle.fsck_core.specs.Judged.{AddsUnmet}
use Rattle.fsck_core.specs.Passed.{Passed}
use Rattle.fsck_core.specs.Shown.{IsBrokenHeader, FindsEarly, TellsHeader}
use Rattle.fsck_core.specs.Wants.{as_found}
use Rattle.fsck_core.proofs.EntryLaws.{some_unmet, stays}
use Rattle.fsck_core.proofs.Joining.{passed_met, passed_both}
use Rattle.fsck_core.proofs.ListJoins.{all_new}
use Rattle.fsck_core.proofs.ShownLaws.{header_early}
use Rattle.jnl_format.specs.Recovery.{Content, sector, header_of_volume}
use Rattle.volume_header.specs.Header.{header_of}
use Rattle.hfs_volume.specs.Content.{volume_of}
use Rattle.fsck_core.specs.Rules.{TellsHeaders}

-- what a header gives that was read
pub found_early : (content : Content) (sectors : ℕ) (head alternate : VolumeHeader) (old new : List Listed) → sectors ≡ length content → head ≡ header_of_volume content → alternate ≡ (volume_of content).alternate → old ≡ []
    → Passed (IsBrokenHeader sectors head alternate) (IsGoodHeader sectors head × AgreesWith head alternate) old new → FindsEarly content new
found_early content sectors head alternate old new many head_is alternate_is none passed f stands = header_early content (as_found f)
    (subst (λ (h : VolumeHeader). IsBrokenHeader (length content) (header_of_volume content) h (as_found f)) alternate_is
    (subst (λ (h : VolumeHeader). IsBrokenHeader (length content) h alternate (as_found f)) head_is
    (subst (λ n. IsBrokenHeader n head alternate (as_found f)) many
    (all_new (λ f. IsBrokenHeader sectors head alternate (as_found f)) old new none passed.each f stands))))

pub headers_there : (content : Content) (sectors : ℕ) (head alternate : VolumeHeader) (list : List Listed) → sectors ≡ length content → head ≡ header_of_volume content → alternate ≡ (volume_of content).alternate → TellsHeader sectors head alternate list
    → TellsHeaders content list
unfolding volume_of
headers_there content sectors head alternate list many head_is alternate_is tells =
    subst (λ (h : VolumeHeader). TellsHeader (length content) (header_of_volume content) h list) alternate_is
    (subst (λ (h : VolumeHeader). TellsHeader (length content) h alternate list) head_is
    (subst (λ n. TellsHeader n head alternate list) many tells))

pub alternate_there : (content : Content) (alternate : VolumeHeader) → alternate ≡ header_of (sector content (length content - 2)) → alternate ≡ (volume_of content).alternate
unfolding volume_of
alternate_there content alternate is = is

pub agrees_there : (content : Content) (head alternate : VolumeHeader) → alternate ≡ (volume_of content).alternate → AgreesWith head alternate → AgreesWith head (volume_of content).alternate
agrees_there content head alternate is agrees = subst (λ (h : VolumeHeader). AgreesWith head h) is agrees

-- where not all numbers are met, one is listed
found_by : (rule : ℕ) (ws : List Want) (P : Type 0) (new : List Listed) (met : Bool) → IsTrue met ↔ P → (AllMet ws → P) → ((f : Listed) → IsUnmet rule (as_found f) ws → IsListed new f) → met ≡ false → 0 < length new
found_by rule ws P new met tells holds listed fails = elim (some_unmet ws) [
  | inl all ↦ absurd (let is : met ≡ true = tells.1 (holds all) in never (sym fails ∙ is))
  | inr one ↦ some (record { rule = rule; place = one.0.place; found = one.0.found; wanted = one.0.wanted }) (listed _ (refl, one.2, one.1))
]
  where
    never : false ≡ true → ⊥
    never is = cc

    some : (f : Listed) → IsListed new f → 0 < length new
    some f (inl stands) = omega (arith, stands.1)
    some f (inr full) = omega (arith, full.0)

pub headers_passed : (sectors : ℕ) (head alternate : VolumeHeader) (old mid new : List Listed) (one other : Bool) → is_volume_size sectors ≡ true
    → IsTrue one ↔ IsGoodHeader sectors head → ((f : Listed) → IsUnmet 1 (as_found f) (header_wants sectors head) → IsListed mid f) → ((f : Listed) → IsListed old f → IsListed mid f) → AddsUnmet 1 (header_wants sectors head) old mid
    → IsTrue other ↔ AgreesWith head alternate → ((f : Listed) → IsUnmet 2 (as_found f) (alternate_wants head alternate) → IsListed new f) → ((f : Listed) → IsListed mid f → IsListed new f) → AddsUnmet 2 (alternate_wants head alternate) mid new
    → Passed (IsBrokenHeader sectors head alternate) (IsGoodHeader sectors head × AgreesWith head alternate) old new
headers_passed sectors head alternate old mid new one other size tells listed still each also more kept added =
    passed_both (IsBrokenHeader sectors head alternate) (IsGoodHeader sectors head) (AgreesWith head alternate) old mid new
    (passed_met (IsBrokenHeader sectors head alternate) (IsGoodHeader sectors head) old mid one tells (found_by 1 (header_wants sectors head) (IsGoodHeader sectors head) mid one tells (header_holds sectors head size) listed) (stays old mid still)
    (λ f stands. ⊎_elim (λ (before : Contains old f). inl before) (λ (unmet : IsUnmet 1 (as_found f) (header_wants sectors head)). inr (inl unmet)) (each f stands)))
    (passed_met (IsBrokenHeader sectors head alternate) (AgreesWith head alternate) mid new other also (found_by 2 (alternate_wants head alternate) (AgreesWith head alternate) new other also (alternate_holds head alternate) more) (stays mid new kept)
    (λ f stands. ⊎_elim (λ (before : Contains mid f). inl before) (λ (unmet : IsUnmet 2 (as_found f) (alternate_wants head alternate)). inr (inr unmet)) (added f stands)))
