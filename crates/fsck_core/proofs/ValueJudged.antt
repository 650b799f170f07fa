-- A record of the attributes file that was judged: what each way through its judgement tells of rules 16 and 20.
use Rattle.std.proofs.Common.{◌≡◌, ◌≢◌, ◌⊎◌, ◌↔◌, ◌<◌, ℕ, ◌+◌, ◌*◌, ◌==◌, arith, Bool, true, false, ◌&&◌, min, List, [], ◌∷◌, length, inl, refl, sym, ◌∙◌, ap, subst}
use Rattle.std.specs.Prelude.{Contains, IsTrue, Result, Ok, Err, IfOk, Option, Some, None, MatchOption}
use Rattle.std.proofs.lemmas.Bool.{true≢false, eqb-true, eq-eqb}
use Rattle.hx_bytes.specs.declared.extents.Extent.{Extent}
use Rattle.hx_bytes.specs.declared.extents.ExtentRecord.{ExtentRecord}
use Rattle.hx_bytes.specs.declared.extents.ForkRecord.{ForkRecord}
use Rattle.volume_header.specs.declared.header.VolumeHeader.{VolumeHeader}
use Rattle.fork_map.specs.Blocks.{blocks_of}
use Rattle.btree_node.specs.Levels.{Pair}
use Rattle.cat_records.specs.Attributes.{is_attr}
use Rattle.cat_records.specs.declared.attribute.AttrRecord.{AttrRecord}
use Rattle.cat_records.specs.declared.attribute.AttrRecord.TheVariants as attribute
use Rattle.hfs_volume.specs.Blocks.{HasValueSizes, FitsIn, LieInside}
use Rattle.hfs_volume.specs.Broken.{Want, want, extent_wants, IsFailed}
use Rattle.hfs_volume.specs.Content.{VolumeState, attributes_of}
use Rattle.hfs_volume.specs.Forks.{is_full}
use Rattle.hfs_volume.specs.Records.{Attribute}
use Rattle.hfs_volume.specs.Values.{is_more, extents_in, IsValue, IsValueIn}
use Rattle.fsck_list.specs.declared.finding.Finding.{Finding}
use Rattle.fsck_core.specs.Attributes.{attribute_at, rest_at, GoWholly, end_of, HasFirstFork, FailsRecord, IsBrokenValue, IsGoodValue, AreGood, AreAttributesOf, Judges, IsToldOr}
use Rattle.fsck_core.specs.Decided.{Adds, StaysListed}
use Rattle.fsck_core.specs.Judged.{Judged, AddsUnmet}
use Rattle.fsck_core.specs.Names.{pair_at}
use Rattle.fsck_core.proofs.DecidedLaws.{Unless, adds_two}
use Rattle.fsck_core.proofs.ValueFound.{judges_as, judges_both, judges_unless, judges_numbers, unless_adds, unmet_adds, followed_value, good_follows, unfollowed_fails, size_wants, sizes_fit, good_sizes, sizes_among, extents_among, good_extents, extents_lie, good_starts, started_fails, unspelled_fails, good_spelled, further_stands, good_forked, unforked_fails}
use Rattle.fsck_list.specs.Kept.{IsListed}
use Rattle.fsck_core.proofs.ToldLaws.{told_so, told_unless}
use Rattle.fsck_core.proofs.NamedLaws.{named_by}

-- a finding behind a part that was judged, where not all attributes are good
pub fails_ok : {E : Type 0} (volume : VolumeState) (P Q : Type 0) (result : Result Bool E) (place : ℕ) (old mid new : List Finding) (one : Bool) → (AreGood volume (length volume.attribute_pairs) → ⊥) → FailsRecord volume place → Judges volume P old mid one
    → IfOk result (λ met. met ≡ false) → IfOk result (λ met. met ≡ false → IsListed new (record { rule = 20; place = place; found = 0; wanted = 1 })) → StaysListed mid new → Unless 20 false place mid new → IfOk result (λ met. Judges volume Q old new met)
fails_ok volume P Q (Err e) place old mid new one bad fails first is found still each = tt
fails_ok volume P Q (Ok met) place old mid new one bad fails first is found still each = record {
  holds = λ yes. absurd (true≢false (sym yes ∙ is));
  told = λ good. absurd (bad good);
  found = λ no. told_so (λ f. IsFailed 20 f (FailsRecord volume)) (IsBrokenValue volume) new (λ f failed. inl failed) (told_unless 20 (FailsRecord volume) place new fails (found no));
  still = λ f listed. still f (first.still f listed);
  each = adds_two (IsBrokenValue volume) old mid new first.each (unless_adds volume false place mid new (λ refused. fails) each);
}

-- the same of a judgement of nothing else
pub unless_ok : {E : Type 0} (volume : VolumeState) (Q : Type 0) (result : Result Bool E) (holds : Bool) (place : ℕ) (old new : List Finding) → (holds ≡ true → Q) → (AreGood volume (length volume.attribute_pairs) → holds ≡ true) → (holds ≡ false → FailsRecord volume place)
    → IfOk result (λ met. met ≡ holds) → IfOk result (λ met. met ≡ false → IsListed new (record { rule = 20; place = place; found = 0; wanted = 1 })) → StaysListed old new → Unless 20 holds place old new → IfOk result (λ met. Judges volume Q old new met)
unless_ok volume Q (Err e) holds place old new so told fails is found still each = tt
unless_ok volume Q (Ok met) holds place old new so told fails is found still each = judges_unless volume Q holds met place old new so told fails is found still each

module _ (volume : VolumeState) (head : VolumeHeader) (pairs : List Pair) (are : AreAttributesOf volume head pairs) (at : ℕ) (inside : at < length pairs) where
  abbrev own : Attribute
  own = attribute_at pairs at

  abbrev Lies : Type 0
  Lies = LieInside volume.head.total_blocks (extents_in own.value)

  abbrev Fits : Type 0
  Fits = FitsIn volume.head.block_size (attributes_of volume) own own.value

  pub good_value : IsTrue (is_attr (pair_at pairs at).1) → IsValue (attributes_of volume) (attribute_at pairs at) → LieInside volume.head.total_blocks (extents_in (attribute_at pairs at).value)
      → FitsIn volume.head.block_size (attributes_of volume) (attribute_at pairs at) (attribute_at pairs at).value → IsGoodValue volume at
  good_value spelled value lies fits =
      subst (λ (l : List Pair). IsTrue (is_attr (pair_at l at).1) × (IsValue (attributes_of volume) (attribute_at l at) × HasValueSizes volume.head.total_blocks volume.head.block_size (attributes_of volume) (attribute_at l at))) are.pairs_are
      (spelled, (value, record { inside = lies; fits = fits }))

  -- the extents of the record
  wants_are : (id : ℕ) (extents : List Extent) → id ≡ own.id → extent_wants id head.total_blocks extents ≡ extent_wants own.id volume.head.total_blocks extents
  wants_are id extents id_is = λ i. extent_wants (id_is i) (are.head_is i).total_blocks extents

  pub extents_judged : (id : ℕ) (extents : List Extent) (old new : List Finding) (met : Bool) → id ≡ (attribute_at pairs at).id → extents_in (attribute_at pairs at).value ≡ extents → Judged 16 (extent_wants id head.total_blocks extents) old new met
      → Judges volume (LieInside volume.head.total_blocks (extents_in (attribute_at pairs at).value)) old new met
  extents_judged id extents old new met id_is is judged =
      judges_numbers volume Lies (extent_wants own.id volume.head.total_blocks extents) old new met (extents_lie volume head pairs are at inside extents is) (good_extents volume head pairs are at inside extents is) (extents_among volume head pairs are at inside extents is)
      (subst (λ l. Judged 16 l old new met) (wants_are id extents id_is) judged)

  pub extents_add : (id : ℕ) (extents : List Extent) (old new : List Finding) → id ≡ (attribute_at pairs at).id → extents_in (attribute_at pairs at).value ≡ extents → AddsUnmet 16 (extent_wants id head.total_blocks extents) old new → Adds (IsBrokenValue volume) old new
  extents_add id extents old new id_is is adds = unmet_adds volume (extent_wants own.id volume.head.total_blocks extents) old new (extents_among volume head pairs are at inside extents is) (subst (λ l. AddsUnmet 16 l old new) (wants_are id extents id_is) adds)

  -- ---- a fork

  module _ (fork : ForkRecord) (value_is : (attribute_at pairs at).value ≡ attribute.Fork fork) where
    plain : is_more own.value ≡ false
    plain = ap is_more value_is

    pub fork_later_bad : ((attribute_at pairs at).start ≡ 0 → ⊥) → AreGood volume (length volume.attribute_pairs) → ⊥
    fork_later_bad later good = later (good_starts volume head pairs are at inside good plain)

    pub fork_later_fails : ((attribute_at pairs at).start ≡ 0 → ⊥) → (place : ℕ) → place ≡ (attribute_at pairs at).id → FailsRecord volume place
    fork_later_fails later place place_is = started_fails volume head pairs are at inside plain later place place_is

    abbrev Told : Option ℕ → Type 0
    Told found = MatchOption found (¬ GoWholly (length (blocks_of fork.extents.extents)) (is_full fork.extents.extents) (rest_at pairs (at + 1) own))
        (λ blocks. GoWholly (length (blocks_of fork.extents.extents)) (is_full fork.extents.extents) (rest_at pairs (at + 1) own) × (blocks ≡ end_of (length (blocks_of fork.extents.extents)) (rest_at pairs (at + 1) own)))

    pub unfollowed_bad : (starts : (attribute_at pairs at).start ≡ 0) (found : Option ℕ) → found ≡ None → Told found → AreGood volume (length volume.attribute_pairs) → ⊥
    unfollowed_bad starts found none told good = subst Told none told (good_follows volume head pairs are at inside fork value_is starts good)

    pub unfollowed_found : (starts : (attribute_at pairs at).start ≡ 0) (found : Option ℕ) → found ≡ None → Told found → (place : ℕ) → place ≡ (attribute_at pairs at).id → FailsRecord volume place
    unfollowed_found starts found none told place place_is = unfollowed_fails volume head pairs are at inside fork value_is starts (subst Told none told) place place_is

    number_wants_are : (id blocks : ℕ) → id ≡ own.id
        → want id fork.total_blocks blocks ∷ want id fork.logical_size (min fork.logical_size (fork.total_blocks * head.block_size)) ∷ [] ≡ want own.id fork.total_blocks blocks ∷ want own.id fork.logical_size (min fork.logical_size (fork.total_blocks * volume.head.block_size)) ∷ []
    number_wants_are id blocks id_is = λ i. want (id_is i) fork.total_blocks blocks ∷ want (id_is i) fork.logical_size (min fork.logical_size (fork.total_blocks * (are.head_is i).block_size)) ∷ []

    pub fork_judged : (starts : (attribute_at pairs at).start ≡ 0) (found : Option ℕ) (blocks id : ℕ) (old mid new : List Finding) (one sizes all : Bool) → found ≡ Some blocks → Told found → id ≡ (attribute_at pairs at).id → all ≡ (sizes && one) → IsTrue (is_attr (pair_at pairs at).1)
        → Judges volume (LieInside volume.head.total_blocks (extents_in (attribute_at pairs at).value)) old mid one
        → Judged 16 (want id fork.total_blocks blocks ∷ want id fork.logical_size (min fork.logical_size (fork.total_blocks * head.block_size)) ∷ []) mid new sizes → Judges volume (IsGoodValue volume at) old new all
    fork_judged starts found blocks id old mid new one sizes all some told id_is all_is spelled first second =
        let there = subst Told some told in
        judges_as volume (Lies × Fits) (IsGoodValue volume at) old new all (λ both. good_value spelled (followed_value volume head pairs are at inside fork value_is starts there.0) both.0 both.1)
        (judges_both volume Lies Fits old mid new one sizes all all_is first
        (judges_numbers volume Fits (want own.id fork.total_blocks blocks ∷ want own.id fork.logical_size (min fork.logical_size (fork.total_blocks * volume.head.block_size)) ∷ []) mid new sizes
        (sizes_fit volume head pairs are at inside fork value_is starts blocks there.1) (good_sizes volume head pairs are at inside fork value_is starts blocks there.1) (sizes_among volume head pairs are at inside fork value_is starts blocks there.1)
        (subst (λ l. Judged 16 l mid new sizes) (number_wants_are id blocks id_is) second)))

    pub fork_named : (starts : (attribute_at pairs at).start ≡ 0) (found : Option ℕ) (blocks : ℕ) → found ≡ Some blocks → Told found → IsValue (attributes_of volume) (attribute_at pairs at)
    fork_named starts found blocks some told = let there = subst Told some told in followed_value volume head pairs are at inside fork value_is starts there.0

    pub sizes_add : (starts : (attribute_at pairs at).start ≡ 0) (found : Option ℕ) (blocks id : ℕ) (old mid new : List Finding) → found ≡ Some blocks → Told found → id ≡ (attribute_at pairs at).id → Adds (IsBrokenValue volume) old mid
        → AddsUnmet 16 (want id fork.total_blocks blocks ∷ want id fork.logical_size (min fork.logical_size (fork.total_blocks * head.block_size)) ∷ []) mid new → Adds (IsBrokenValue volume) old new
    sizes_add starts found blocks id old mid new some told id_is first second =
        let there = subst Told some told in
        adds_two (IsBrokenValue volume) old mid new first
        (unmet_adds volume (want own.id fork.total_blocks blocks ∷ want own.id fork.logical_size (min fork.logical_size (fork.total_blocks * volume.head.block_size)) ∷ []) mid new
        (sizes_among volume head pairs are at inside fork value_is starts blocks there.1) (subst (λ l. AddsUnmet 16 l mid new) (number_wants_are id blocks id_is) second))

  -- ---- further extents

  module _ (more : ExtentRecord) (value_is : (attribute_at pairs at).value ≡ attribute.More more) (forked : Bool) (tells : IsTrue forked ↔ HasFirstFork pairs (attribute_at pairs at)) where
    no_fork : forked ≡ false → HasFirstFork pairs own → ⊥
    no_fork is has = true≢false (sym (tells.1 has) ∙ is)

    fits : Fits
    fits = subst (λ v. FitsIn volume.head.block_size (attributes_of volume) own v) (sym value_is) tt

    pub further_fails : forked ≡ false → (place : ℕ) → place ≡ (attribute_at pairs at).id → FailsRecord volume place
    further_fails is place place_is = unforked_fails volume head pairs are at inside more value_is (no_fork is) place place_is

    pub further_judged : (id : ℕ) (old mid new : List Finding) (one stands all : Bool) → id ≡ (attribute_at pairs at).id → all ≡ (stands && one) → IsTrue (is_attr (pair_at pairs at).1) → Judges volume (LieInside volume.head.total_blocks (extents_in (attribute_at pairs at).value)) old mid one
        → stands ≡ forked → (stands ≡ false → IsListed new (record { rule = 20; place = id; found = 0; wanted = 1 })) → StaysListed mid new → Unless 20 forked id mid new → Judges volume (IsGoodValue volume at) old new all
    further_judged id old mid new one stands all id_is all_is spelled first is found still each =
        judges_as volume (Lies × IsValue (attributes_of volume) own) (IsGoodValue volume at) old new all (λ both. good_value spelled both.1 both.0 fits)
        (judges_both volume Lies (IsValue (attributes_of volume) own) old mid new one stands all all_is first
        (judges_unless volume (IsValue (attributes_of volume) own) forked stands id mid new (λ yes. further_stands volume head pairs are at inside more value_is (tells.0 yes)) (λ good. tells.1 (good_forked volume head pairs are at inside more value_is good))
        (λ no_one. further_fails no_one id id_is) is found still each))

    pub further_named : (id : ℕ) (new : List Finding) (stands : Bool) → id ≡ (attribute_at pairs at).id → stands ≡ forked → (stands ≡ false → IsListed new (record { rule = 20; place = id; found = 0; wanted = 1 }))
        → IsToldOr volume (IsValue (attributes_of volume) (attribute_at pairs at)) new
    further_named id new stands id_is is found =
        named_by volume (IsValue (attributes_of volume) own) forked stands id new (λ yes. further_stands volume head pairs are at inside more value_is (tells.0 yes)) (λ no. further_fails no id id_is) is found

    pub further_add : (id : ℕ) (old mid new : List Finding) → id ≡ (attribute_at pairs at).id → Adds (IsBrokenValue volume) old mid → Unless 20 forked id mid new → Adds (IsBrokenValue volume) old new
    further_add id old mid new id_is first each = adds_two (IsBrokenValue volume) old mid new first (unless_adds volume forked id mid new (λ is. further_fails is id id_is) each)

  -- ---- a value in its record, and bytes that spell no record

  module _ (bytes : List ℕ) (value_is : (attribute_at pairs at).value ≡ attribute.Inline bytes) (start : ℕ) (start_is : start ≡ (attribute_at pairs at).start) where
    pub inline_good : IsTrue (is_attr (pair_at pairs at).1) → (start == 0) ≡ true → IsGoodValue volume at
    inline_good spelled zero_is =
        good_value spelled (subst (λ v. IsValueIn (attributes_of volume) own v) (sym value_is) (sym start_is ∙ eqb-true start 0 zero_is))
        (subst (λ v. LieInside volume.head.total_blocks (extents_in v)) (sym value_is) (λ k d less. absurd (omega (arith, less))))
        (subst (λ v. FitsIn volume.head.block_size (attributes_of volume) own v) (sym value_is) tt)

    pub inline_named : IsTrue (is_attr (pair_at pairs at).1) → (start == 0) ≡ true → IsTrue (is_attr (pair_at pairs at).1) × IsValue (attributes_of volume) (attribute_at pairs at)
    inline_named spelled zero_is = (spelled, subst (λ v. IsValueIn (attributes_of volume) own v) (sym value_is) (sym start_is ∙ eqb-true start 0 zero_is))

    pub inline_told : AreGood volume (length volume.attribute_pairs) → (start == 0) ≡ true
    inline_told good = eq-eqb start 0 (start_is ∙ good_starts volume head pairs are at inside good (ap is_more value_is))

    pub inline_fails : (start == 0) ≡ false → (place : ℕ) → place ≡ (attribute_at pairs at).id → FailsRecord volume place
    inline_fails later place place_is = started_fails volume head pairs are at inside (ap is_more value_is) (λ zero_is. true≢false (sym (eq-eqb start 0 (start_is ∙ zero_is)) ∙ later)) place place_is

  pub unspelled_told : is_attr (pair_at pairs at).1 ≡ false → AreGood volume (length volume.attribute_pairs) → false ≡ true
  unspelled_told unread good = sym unread ∙ good_spelled volume head pairs are at inside good
