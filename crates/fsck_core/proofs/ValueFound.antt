-- What rules 16 and 20 say of a record of the attributes file, and what is found where one doesn't hold.
use Rattle.std.proofs.Common.{◌≡◌, ◌≢◌, ◌⊎◌, ◌↔◌, ◌<◌, ◌≤◌, ℕ, zero, suc, ◌+◌, ◌*◌, Bool, true, false, ◌&&◌, ◌==◌, min, List, [], ◌∷◌, ◌++◌, length, map, drop, get_or, inl, inr, refl, sym, ◌∙◌, ap, subst, arith, ⊎_elim, if◌then◌else◌}
use Rattle.std.specs.Prelude.{Contains, All, IsTrue}
use Rattle.std.specs.List.{flat_map, range_with_len, count_by}
use Rattle.std.proofs.lemmas.Bool.{true≢false, eqb-true, eq-eqb, and_parts, cases_lt, cases_eq}
use Rattle.std.proofs.lemmas.List.{length-append, get_or-map, length-map, get_or-drop, length-drop, get_or_default}
use Rattle.std.proofs.lemmas.List.Concat.{flat_map-append}
use Rattle.std.proofs.lemmas.List.Elements.{Contains-append_left, Contains-append_right}
use Rattle.hx_bytes.specs.declared.extents.Extent.{Extent}
use Rattle.hx_bytes.specs.declared.extents.ExtentRecord.{ExtentRecord}
use Rattle.hx_bytes.specs.declared.extents.ForkRecord.{ForkRecord}
use Rattle.volume_header.specs.declared.header.VolumeHeader.{VolumeHeader}
use Rattle.fork_map.specs.Blocks.{blocks_of}
use Rattle.btree_node.specs.Levels.{Pair}
use Rattle.cat_records.specs.Attributes.{is_attr}
use Rattle.cat_records.specs.declared.attribute.AttrRecord.{AttrRecord}
use Rattle.cat_records.specs.declared.attribute.AttrRecord.TheVariants as attribute
use Rattle.hfs_model.specs.Sorted.{kept}
use Rattle.hfs_volume.specs.Attributes.{IsAttribute}
use Rattle.hfs_volume.specs.Blocks.{HasValueSizes, FitsIn, LieInside}
use Rattle.hfs_volume.specs.Broken as broken
use Rattle.hfs_volume.specs.Broken.{Want, AllMet, IsUnmet, IsFailed, want, extent_wants, fit_wants, value_wants}
use Rattle.hfs_volume.specs.Content.{VolumeState, attributes_of, records_of}
use Rattle.hfs_volume.specs.Forks.{in_use, is_full}
use Rattle.hfs_volume.specs.Records.{Attribute, attribute_of}
use Rattle.hfs_volume.specs.Values.{is_record_of, is_more, has_fork, extents_in, used_extents, value_extents, value_blocks, further_of, GoOnIn, IsValue, IsValueIn}
use Rattle.hfs_volume.proofs.BlockWants.{inside_holds, inside_met, none_met, cons_met}
use Rattle.hfs_volume.proofs.EntryWants.{counted, none_or_one}
use Rattle.hfs_volume.proofs.Members.{all_of, each_of, at_front, behind, kept_cases, kept_stands}
use Rattle.hfs_volume.proofs.Reaching.{flat_stands}
use Rattle.fsck_list.specs.declared.finding.Finding.{Finding}
use Rattle.fsck_core.specs.Attributes.{AreKeyed, attribute_at, rest_at, GoWholly, end_of, HasFirstFork, FailsRecord, IsBrokenValue, IsGoodRecord, IsGoodValue, AreGood, AreAttributesOf, Judges}
use Rattle.fsck_core.specs.Decided.{Adds}
use Rattle.fsck_core.specs.Judged.{Judged, AddsUnmet}
use Rattle.fsck_core.specs.Names.{pair_at}
use Rattle.fsck_core.specs.Wants.{as_found}
use Rattle.fsck_core.proofs.DecidedLaws.{Unless, adds_two, adds_so, adds_unless}
use Rattle.fsck_core.proofs.ToldLaws.{told_two, told_so, told_unless, told_unmet}
use Rattle.fsck_core.proofs.JudgedLaws.{adds_of}
use Rattle.fsck_core.proofs.OwnerLaws.{used_length}
use Rattle.fsck_core.proofs.ValueLaws.{all_more, wholly_goes, goes_wholly, stray_or_none, ends_there}
use Rattle.fsck_core.proofs.ValueOrder.{Same, rises, starts_rise, first_at_zero, tested_same, same_tested, no_test, rest_more, all_are_rest}
use Rattle.fsck_core.proofs.WantLaws.{both_true, one_false}
use Rattle.fsck_list.specs.Kept.{IsListed}
use Rattle.fsck_core.specs.Decided.{StaysListed}

-- ---- parts that were judged one after the other

module _ (volume : VolumeState) where
  pub judges_as : (P Q : Type 0) (old new : List Finding) (met : Bool) → (P → Q) → Judges volume P old new met → Judges volume Q old new met
  judges_as P Q old new met to judged = record { holds = λ is. to (judged.holds is); told = judged.told; found = judged.found; still = judged.still; each = judged.each }

  pub judges_both : (P Q : Type 0) (old mid new : List Finding) (one other both : Bool) → both ≡ (other && one) → Judges volume P old mid one → Judges volume Q mid new other → Judges volume (P × Q) old new both
  judges_both P Q old mid new one other both is first second = record {
    holds = λ yes. let parts = both_true other one (sym is ∙ yes) in (first.holds parts.1, second.holds parts.0);
    told = λ good. is ∙ (λ i. (second.told good i) && (first.told good i));
    found = told_two (IsBrokenValue volume) one other both mid new is second.found first.found second.still;
    still = λ f listed. second.still f (first.still f listed);
    each = adds_two (IsBrokenValue volume) old mid new first.each second.each;
  }

  pub unless_adds : (holds : Bool) (place : ℕ) (old new : List Finding) → (holds ≡ false → FailsRecord volume place) → Unless 20 holds place old new → Adds (IsBrokenValue volume) old new
  unless_adds holds place old new fails each = adds_so (λ f. IsFailed 20 f (FailsRecord volume)) (IsBrokenValue volume) old new (λ f failed. inl failed) (adds_unless 20 (FailsRecord volume) holds place old new fails each)

  pub judges_unless : (P : Type 0) (holds met : Bool) (place : ℕ) (old new : List Finding) → (holds ≡ true → P) → (AreGood volume (length volume.attribute_pairs) → holds ≡ true) → (holds ≡ false → FailsRecord volume place)
      → met ≡ holds → (met ≡ false → IsListed new (record { rule = 20; place = place; found = 0; wanted = 1 })) → StaysListed old new → Unless 20 holds place old new → Judges volume P old new met
  judges_unless P holds met place old new so told fails is found still each = record {
    holds = λ yes. so (sym is ∙ yes);
    told = λ good. is ∙ told good;
    found = λ no. told_so (λ f. IsFailed 20 f (FailsRecord volume)) (IsBrokenValue volume) new (λ f failed. inl failed) (told_unless 20 (FailsRecord volume) place new (fails (sym is ∙ no)) (found no));
    still = still;
    each = unless_adds holds place old new fails each;
  }

  pub unmet_adds : (ws : List Want) (old new : List Finding) → ((w : Want) → Contains ws w → Contains (flat_map (value_wants volume) (attributes_of volume)) w) → AddsUnmet 16 ws old new → Adds (IsBrokenValue volume) old new
  unmet_adds ws old new more each f stands = ⊎_elim (λ (before : Contains old f). inl before) (λ (unmet : IsUnmet 16 (as_found f) (flat_map (value_wants volume) (attributes_of volume))). inr (inr unmet))
      (adds_of 16 ws (flat_map (value_wants volume) (attributes_of volume)) old new more each f stands)

  pub judges_numbers : (P : Type 0) (ws : List Want) (old new : List Finding) (met : Bool) → (AllMet ws → P) → (AreGood volume (length volume.attribute_pairs) → AllMet ws)
      → ((w : Want) → Contains ws w → Contains (flat_map (value_wants volume) (attributes_of volume)) w) → Judged 16 ws old new met → Judges volume P old new met
  judges_numbers P ws old new met so told more judged = record {
    holds = λ yes. so (judged.tells.0 yes);
    told = λ good. judged.tells.1 (told good);
    found = λ no. told_so (λ f. IsUnmet 16 f ws) (IsBrokenValue volume) new (λ f unmet. inr (unmet.0, unmet.1, more (want f.place f.found f.wanted) unmet.2)) (told_unmet 16 ws old new met judged no);
    still = judged.still;
    each = unmet_adds ws old new more judged.each;
  }

-- ---- one record

-- those that are kept where all that pass a weaker test pass
kept_and : (test : Attribute → Bool) (xs : List Attribute) → ((a : Attribute) → Contains (kept test xs) a → is_more a.value ≡ true) → kept (λ a. test a && is_more a.value) xs ≡ kept test xs
kept_and test [] all = refl
kept_and test (x ∷ xs) all = by (test x) refl (λ each. kept_and test xs each)
  where
    by : (b : Bool) → test x ≡ b → (((a : Attribute) → Contains (kept test xs) a → is_more a.value ≡ true) → kept (λ a. test a && is_more a.value) xs ≡ kept test xs) → kept (λ a. test a && is_more a.value) (x ∷ xs) ≡ kept test (x ∷ xs)
    by true is rest =
        let there : kept test (x ∷ xs) ≡ x ∷ kept test xs = ap (λ b. (if b then x ∷ [] else []) ++ kept test xs) is in
        let more : is_more x.value ≡ true = all x (subst (λ l. Contains l x) (sym there) (at_front x (kept test xs))) in
        (λ i. (if is i && more i then x ∷ [] else []) ++ rest (λ a stands. all a (subst (λ l. Contains l a) (sym there) (behind x a (kept test xs) stands))) i) ∙ sym there
    by false is rest =
        let there : kept test (x ∷ xs) ≡ kept test xs = ap (λ b. (if b then x ∷ [] else []) ++ kept test xs) is in
        (λ i. (if is i && is_more x.value then x ∷ [] else []) ++ rest (λ a stands. all a (subst (λ l. Contains l a) (sym there) stands)) i) ∙ sym there

module _ (volume : VolumeState) (head : VolumeHeader) (pairs : List Pair) (are : AreAttributesOf volume head pairs) (at : ℕ) (inside : at < length pairs) where
  abbrev own : Attribute
  own = attribute_at pairs at

  abbrev test : Attribute → Bool
  test = is_record_of own.id own.name

  abbrev rest : List Attribute
  rest = rest_at pairs (at + 1) own

  abbrev Good : Type 0
  Good = AreGood volume (length volume.attribute_pairs)

  keyed : AreKeyed pairs
  keyed = are.keyed

  here : pairs ≡ volume.attribute_pairs
  here = are.pairs_are

  all_here : map attribute_of pairs ≡ attributes_of volume
  all_here = ap (λ l. map attribute_of l) here

  -- the record at a place is one of the volume's
  pub stands_at : (k : ℕ) → k < length pairs → Contains (map attribute_of pairs) (attribute_at pairs k)
  stands_at k within = (k, omega (arith, within, length-map pairs attribute_of), get_or-map attribute_of pairs k ([], []) (attribute_at pairs k) within)

  pair_stands : (k : ℕ) → k < length pairs → Contains volume.attribute_pairs (pair_at pairs k)
  pair_stands k within = subst (λ (l : List Pair). Contains l (pair_at pairs k)) here (k, within, get_or_default pairs k (pair_at pairs k) ([], []) within)

  pub good_at : Good → (k : ℕ) → k < length pairs → IsGoodRecord volume (pair_at pairs k)
  good_at good k within = subst (λ (l : List Pair). IsGoodRecord volume (pair_at l k)) (sym here) (good k (subst (λ (l : List Pair). k < length l) here within))

  pub fails_at : (k place : ℕ) → k < length pairs → place ≡ (attribute_at pairs k).id → ((¬ IsAttribute (records_of volume) (pair_at pairs k)) ⊎ (¬ IsValue (attributes_of volume) (attribute_at pairs k))) → FailsRecord volume place
  fails_at k place within place_is why = (pair_at pairs k, pair_stands k within, sym place_is, why)

  -- where a record of the rest stands
  place_of : (a : Attribute) → Contains rest a → (k : ℕ) × (at < k) × (k < length pairs) × (attribute_at pairs k ≡ a) × Same own a
  place_of a stands =
      let found = kept_cases test (map attribute_of (drop (at + 1) pairs)) a stands in
      let k : ℕ = found.0.0 in
      let short : k < length (drop (at + 1) pairs) = omega (arith, found.0.1, length-map (drop (at + 1) pairs) attribute_of) in (
        at + 1 + k,
        omega arith,
        omega (arith, short, length-drop (at + 1) pairs),
        ap attribute_of (sym (get_or-drop (at + 1) pairs k ([], []))) ∙ sym (get_or-map attribute_of (drop (at + 1) pairs) k ([], []) a short) ∙ found.0.2,
        tested_same own a found.1,
      )

  starts_later : (k : ℕ) → at < k → k < length pairs → Same own (attribute_at pairs k) → (attribute_at pairs k).start ≡ 0 → ⊥
  starts_later k later within same zero_is = let rise = starts_rise own (attribute_at pairs k) (rises pairs keyed at k later within) same in omega (arith, rise, zero_is)

  -- a value that isn't a further record begins at 0
  begins : (a : Attribute) (value : AttrRecord) → is_more value ≡ false → IsValueIn (attributes_of volume) a value → a.start ≡ 0
  begins a (attribute.Inline v) plain is = is
  begins a (attribute.Fork fork) plain is = is.0
  begins a (attribute.More extents) plain is = absurd (true≢false plain)

  stray_fails : (a : Attribute) → Contains rest a → is_more a.value ≡ false → (place : ℕ) → place ≡ own.id → FailsRecord volume place
  stray_fails a stands plain place place_is =
      let found = place_of a stands in
      let same : Same own (attribute_at pairs found.0) = subst (λ (x : Attribute). Same own x) (sym found.3) found.4 in
      fails_at found.0 place found.2 (place_is ∙ same.0) (inr (λ value.
      starts_later found.0 found.1 found.2 same (begins (attribute_at pairs found.0) (attribute_at pairs found.0).value (ap (λ (x : Attribute). is_more x.value) found.3 ∙ plain) value)))

  -- where all attributes are good all that stand behind a first record are further ones
  good_rest : Good → (a : Attribute) → Contains rest a → is_more a.value ≡ true
  good_rest good a stands = by (is_more a.value) refl
    where
      by : (b : Bool) → is_more a.value ≡ b → is_more a.value ≡ true
      by true is = is
      by false is =
          let found = place_of a stands in
          let same : Same own (attribute_at pairs found.0) = subst (λ (x : Attribute). Same own x) (sym found.3) found.4 in
          absurd (starts_later found.0 found.1 found.2 same (begins (attribute_at pairs found.0) (attribute_at pairs found.0).value (ap (λ (x : Attribute). is_more x.value) found.3 ∙ is) (good_at good found.0 found.2).value))

  among : (w : Want) → Contains (value_wants volume own) w → Contains (flat_map (value_wants volume) (attributes_of volume)) w
  among w stands = flat_stands (value_wants volume) (attributes_of volume) own w (subst (λ l. Contains l own) all_here (stands_at at inside)) stands

  -- ---- a fork that begins at 0

  module _ (fork : ForkRecord) (value_is : own.value ≡ attribute.Fork fork) (starts : own.start ≡ 0) where
    abbrev first : ℕ
    first = length (blocks_of fork.extents.extents)

    abbrev full : Bool
    full = is_full fork.extents.extents

    apart : (k : ℕ) → k < at → test (attribute_at pairs k) ≡ false
    apart k less = no_test own (attribute_at pairs k) (λ same. first_at_zero pairs keyed k at less inside starts (sym same.0, sym same.1))

    further_is : ((a : Attribute) → Contains rest a → is_more a.value ≡ true) → further_of (attributes_of volume) own.id own.name ≡ rest
    further_is all =
        ap (λ l. further_of l own.id own.name) (sym all_here)
        ∙ all_are_rest pairs keyed own (λ a. test a && is_more a.value) (at + 1) (omega (arith, inside)) none
        ∙ kept_and test (map attribute_of (drop (at + 1) pairs)) all
      where
        no : (b : Bool) → (b && false) ≡ false
        no true = refl
        no false = refl

        none : (k : ℕ) → k < at + 1 → (test (attribute_at pairs k) && is_more (attribute_at pairs k).value) ≡ false
        none k less = ⊎_elim
            (λ (before : k < at). ap (λ b. b && is_more (attribute_at pairs k).value) (apart k before))
            (λ (not_before : at ≤ k). let is : k ≡ at = omega (arith, less, not_before) in
            ap (λ b. test (attribute_at pairs k) && b) (ap (λ n. is_more (attribute_at pairs n).value) is ∙ ap is_more value_is) ∙ no (test (attribute_at pairs k)))
            (cases_lt k at)

    value_of_fork : IsValueIn (attributes_of volume) own (attribute.Fork fork) → IsValue (attributes_of volume) own
    value_of_fork is = subst (λ v. IsValueIn (attributes_of volume) own v) (sym value_is) is

    fork_of_value : IsValue (attributes_of volume) own → IsValueIn (attributes_of volume) own (attribute.Fork fork)
    fork_of_value is = subst (λ v. IsValueIn (attributes_of volume) own v) value_is is

    pub followed_value : GoWholly first full rest → IsValue (attributes_of volume) own
    followed_value goes = value_of_fork (starts, subst (λ l. GoOnIn first full l) (sym (further_is (all_more first full rest goes))) (wholly_goes first full rest goes))

    pub good_follows : AreGood volume (length volume.attribute_pairs) → GoWholly first full rest
    good_follows good =
        goes_wholly first full rest (good_rest good) (subst (λ l. GoOnIn first full l) (further_is (good_rest good)) (fork_of_value (good_at good at inside).value).1)

    pub unfollowed_fails : (GoWholly first full rest → ⊥) → (place : ℕ) → place ≡ own.id → FailsRecord volume place
    unfollowed_fails not_on place place_is = ⊎_elim
        (λ (stray : (a : Attribute) × Contains rest a × (is_more a.value ≡ false)). stray_fails stray.0 stray.1 stray.2 place place_is)
        (λ (all : (a : Attribute) → Contains rest a → is_more a.value ≡ true).
        fails_at at place inside place_is (inr (λ value. not_on (goes_wholly first full rest all (subst (λ l. GoOnIn first full l) (further_is all) (fork_of_value value).1)))))
        (stray_or_none rest)

    blocks_are : length (value_blocks (attributes_of volume) own.id own.name) ≡ end_of first rest
    blocks_are =
        let all : kept test (attributes_of volume) ≡ own ∷ rest =
        ap (kept test) (sym all_here) ∙ all_are_rest pairs keyed own test at (omega (arith, inside)) apart ∙ rest_more pairs keyed own at inside (same_tested own own (refl, refl)) in
        let parts : length (blocks_of (flat_map used_extents (own ∷ rest))) ≡ length (blocks_of (used_extents own)) + length (blocks_of (flat_map used_extents rest)) =
        ap length (flat_map-append (λ (e : Extent). range_with_len e.start e.count) (used_extents own) (flat_map used_extents rest)) ∙ length-append (blocks_of (used_extents own)) (blocks_of (flat_map used_extents rest)) in
        let begin : length (blocks_of (used_extents own)) ≡ first = used_length (extents_in own.value) ∙ ap (λ v. length (blocks_of (extents_in v))) value_is in
        ap (λ l. length (blocks_of (flat_map used_extents l))) all ∙ parts ∙ ap (λ n. n + length (blocks_of (flat_map used_extents rest))) begin ∙ ends_there first rest

    abbrev pub size_wants : ℕ → List Want
    size_wants blocks = want own.id fork.total_blocks blocks ∷ want own.id fork.logical_size (min fork.logical_size (fork.total_blocks * volume.head.block_size)) ∷ []

    sizes_are : (blocks : ℕ) → blocks ≡ end_of first rest → size_wants blocks ≡ fit_wants volume own own.value
    sizes_are blocks is = ap size_wants (is ∙ sym blocks_are) ∙ ap (fit_wants volume own) (sym value_is)

    pub sizes_fit : (blocks : ℕ) → blocks ≡ end_of first rest → AllMet (size_wants blocks) → FitsIn volume.head.block_size (attributes_of volume) own own.value
    sizes_fit blocks is met =
        let number : fork.total_blocks ≡ blocks = met 0 (want 0 0 0) (omega arith) in
        let size : fork.logical_size ≡ min fork.logical_size (fork.total_blocks * volume.head.block_size) = met 1 (want 0 0 0) (omega arith) in
        subst (λ v. FitsIn volume.head.block_size (attributes_of volume) own v) (sym value_is) (blocks_are ∙ sym is ∙ sym number, omega (arith, size))

    pub good_sizes : (blocks : ℕ) → blocks ≡ end_of first rest → AreGood volume (length volume.attribute_pairs) → AllMet (size_wants blocks)
    good_sizes blocks is good =
        let fits = subst (λ v. FitsIn volume.head.block_size (attributes_of volume) own v) value_is (good_at good at inside).sizes.fits in
        let most = fits.1 in
        cons_met (want own.id fork.total_blocks blocks) (want own.id fork.logical_size (min fork.logical_size (fork.total_blocks * volume.head.block_size)) ∷ []) (sym fits.0 ∙ blocks_are ∙ sym is)
        (cons_met (want own.id fork.logical_size (min fork.logical_size (fork.total_blocks * volume.head.block_size))) [] (omega (arith, most)) none_met)

    pub sizes_among : (blocks : ℕ) → blocks ≡ end_of first rest → (w : Want) → Contains (size_wants blocks) w → Contains (flat_map (value_wants volume) (attributes_of volume)) w
    sizes_among blocks is w stands =
        among w (Contains-append_left (fit_wants volume own own.value) (extent_wants own.id volume.head.total_blocks (extents_in own.value)) w (subst (λ l. Contains l w) (sizes_are blocks is) stands))

  -- ---- extents that lie in the volume

  pub extents_among : (extents : List Extent) → extents_in own.value ≡ extents → (w : Want) → Contains (extent_wants own.id volume.head.total_blocks extents) w → Contains (flat_map (value_wants volume) (attributes_of volume)) w
  extents_among extents is w stands =
      among w (Contains-append_right (fit_wants volume own own.value) (extent_wants own.id volume.head.total_blocks (extents_in own.value)) w (subst (λ l. Contains (extent_wants own.id volume.head.total_blocks l) w) (sym is) stands))

  pub good_extents : (extents : List Extent) → extents_in own.value ≡ extents → AreGood volume (length volume.attribute_pairs) → AllMet (extent_wants own.id volume.head.total_blocks extents)
  good_extents extents is good = inside_met own.id volume.head.total_blocks extents (subst (LieInside volume.head.total_blocks) is (good_at good at inside).sizes.inside)

  pub extents_lie : (extents : List Extent) → extents_in own.value ≡ extents → AllMet (extent_wants own.id volume.head.total_blocks extents) → LieInside volume.head.total_blocks (extents_in own.value)
  extents_lie extents is met = subst (LieInside volume.head.total_blocks) (sym is) (inside_holds own.id volume.head.total_blocks extents met)

  -- ---- further extents, and values in their records

  pub good_starts : AreGood volume (length volume.attribute_pairs) → is_more own.value ≡ false → own.start ≡ 0
  good_starts good plain = begins own own.value plain (good_at good at inside).value

  pub started_fails : is_more own.value ≡ false → (own.start ≡ 0 → ⊥) → (place : ℕ) → place ≡ own.id → FailsRecord volume place
  started_fails plain later place place_is = fails_at at place inside place_is (inr (λ value. later (begins own own.value plain value)))

  pub unspelled_fails : is_attr (pair_at pairs at).1 ≡ false → (place : ℕ) → place ≡ own.id → FailsRecord volume place
  unspelled_fails unread place place_is = fails_at at place inside place_is (inl (λ is. true≢false (sym is.spelled ∙ unread)))

  pub good_spelled : AreGood volume (length volume.attribute_pairs) → is_attr (pair_at pairs at).1 ≡ true
  good_spelled good = (good_at good at inside).own.spelled

  module _ (more : ExtentRecord) (value_is : own.value ≡ attribute.More more) where
    abbrev forks : Attribute → Bool
    forks a = is_record_of own.id own.name a && has_fork a.value

    index_of : (a : Attribute) → Contains (map attribute_of pairs) a → (k : ℕ) × (k < length pairs) × (attribute_at pairs k ≡ a)
    index_of a stands =
        let within : stands.0 < length pairs = omega (arith, stands.1, length-map pairs attribute_of) in
        (stands.0, within, sym (get_or-map attribute_of pairs stands.0 ([], []) a within) ∙ stands.2)

    pub further_stands : HasFirstFork pairs own → IsValue (attributes_of volume) own
    further_stands (k, within, same, fork, starts) =
        subst (λ v. IsValueIn (attributes_of volume) own v) (sym value_is) (attribute_at pairs k, subst (λ l. Contains l (attribute_at pairs k)) all_here (stands_at k within), same, fork)

    fork_begins : (a : Attribute) (value : AttrRecord) → has_fork value ≡ true → IsValueIn (attributes_of volume) a value → a.start ≡ 0
    fork_begins a (attribute.Inline v) fork is = is
    fork_begins a (attribute.Fork f) fork is = is.0
    fork_begins a (attribute.More e) fork is = absurd (true≢false (sym fork))

    pub good_forked : AreGood volume (length volume.attribute_pairs) → HasFirstFork pairs own
    good_forked good =
        let value = subst (λ v. IsValueIn (attributes_of volume) own v) value_is (good_at good at inside).value in
        let found = index_of value.0 (subst (λ l. Contains l value.0) (sym all_here) value.1) in
        let fork : has_fork (attribute_at pairs found.0).value ≡ true = ap (λ (a : Attribute). has_fork a.value) found.2 ∙ value.3 in
        (found.0, found.1, ap (λ (a : Attribute). is_record_of own.id own.name a) found.2 ∙ value.2, fork, fork_begins (attribute_at pairs found.0) (attribute_at pairs found.0).value fork (good_at good found.0 found.1).value)

    pub unforked_fails : (HasFirstFork pairs own → ⊥) → (place : ℕ) → place ≡ own.id → FailsRecord volume place
    unforked_fails none place place_is = ⊎_elim
        (λ (zero_of : count_by forks (map attribute_of pairs) ≡ 0).
        fails_at at place inside place_is (inr (λ value.
        let there = subst (λ v. IsValueIn (attributes_of volume) own v) value_is value in
        let one = counted forks (map attribute_of pairs) there.0 (subst (λ l. Contains l there.0) (sym all_here) there.1) (λ i. there.2 i && there.3 i) in
        omega (arith, zero_of, one))))
        (λ (one : (a : Attribute) × Contains (map attribute_of pairs) a × (forks a ≡ true)).
        let parts = and_parts (is_record_of own.id own.name one.0) (has_fork one.0.value) one.2 in
        let found = index_of one.0 one.1 in
        let same : is_record_of own.id own.name (attribute_at pairs found.0) ≡ true = ap (λ (a : Attribute). is_record_of own.id own.name a) found.2 ∙ parts.0 in
        let fork : has_fork (attribute_at pairs found.0).value ≡ true = ap (λ (a : Attribute). has_fork a.value) found.2 ∙ parts.1 in
        fails_at found.0 place found.1 (place_is ∙ (tested_same own (attribute_at pairs found.0) same).0) (inr (λ value. none (found.0, found.1, same, fork, fork_begins (attribute_at pairs found.0) (attribute_at pairs found.0).value fork value))))
        (none_or_one forks (map attribute_of pairs))
