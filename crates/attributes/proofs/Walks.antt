-- Walks over the records of a folder or file, and over those of one attribute behind its first: what has been gathered, step by step.
use Rattle.std.proofs.Common.{◌≡◌, ℕ, suc, ◌+◌, ◌<◌, ◌≤◌, Bool, true, false, List, [], ◌∷◌, ◌++◌, length, map, take, drop, refl, sym, ◌∙◌, ap, subst, arith, append_assoc}
use Rattle.std.specs.Prelude.{slice_index_or, IsTrue, ◌==◌, ◌&&◌, not, Option, None, Some, if◌then◌else◌}
use Rattle.std.specs.List.{flat_map}
use Rattle.std.specs.Cmp.{nat_cmp_is}
use Rattle.std.specs.declared.cmp.Ordering.TheVariants.{Greater}
use Rattle.std.proofs.lemmas.Bool.{and_from, and_parts, ne_eqb}
use Rattle.std.proofs.lemmas.Grind.{flat_map-append}
use Rattle.std.proofs.lemmas.List.{map-append, append-nil, take_all, take_more, take-append-drop, length-append, length-take, length-drop, get_or-take, get_or-drop}
use Rattle.hx_bytes.specs.declared.extents.Extent.{Extent}
use Rattle.btree_node.specs.Keys.{attr_cmp, attr_file, attr_start, attr_units}
use Rattle.btree_node.specs.Levels.{Pair}
use Rattle.btree_node.specs.Store.{Store}
use Rattle.btree_node.specs.Tree.{pairs_of}
use Rattle.btree_edit.specs.Desk.{IsAbove, HoldsPair}
use Rattle.btree_edit.specs.Reading.{ReadsNodes}
use Rattle.btree_edit.specs.Walking.{Seeks, StandsAt, StepsOn, leaves_until, leaves_where}
use Rattle.btree_edit.proofs.Spans.{HasSpanned, span_begins, span_goes_on, span_ends}
use Rattle.btree_edit.specs.declared.desk.Desk.{Desk}
use Rattle.hfs_model.specs.Sorted.{kept}
use Rattle.hfs_volume.specs.Records.{Attribute, attribute_of}
use Rattle.hfs_volume.specs.Values.{is_more, is_record_of}
use Rattle.hfs_volume.proofs.Valued.{kept_mapped}
use Rattle.attributes.specs.Dropping.{extents_of_pair}
use Rattle.attributes.specs.Owned.{is_of, is_own, names_of}
use Rattle.attributes.specs.Values.{AreValued, later_extents}
use Rattle.attributes.proofs.Firsts.{first_or_more, start_is}
use Rattle.attributes.proofs.Lists.{false_so, kept_append, none_kept, not_so}
use Rattle.attributes.proofs.Owned.{file_of, none_owned_behind, none_owned_below, of_file}
use Rattle.attributes.proofs.Places.{AscendByKey, by_start, is_greater, is_under, none_under_behind, under_parts}
use Rattle.attributes.proofs.Removing.{kept_extents}

abbrev at : List Pair → ℕ → Pair
at pairs k = slice_index_or pairs k ([], [])

-- ---- what is kept of the pairs up to a place

module _ (test : Pair → Bool) (pairs : List Pair) where
  -- with one pair more
  pub kept_next : (place : ℕ) → place < length pairs → kept test (take (place + 1) pairs) ≡ kept test (take place pairs) ++ (if test (at pairs place) then at pairs place ∷ [] else [])
  kept_next place inside =
      ap (kept test) (take_more pairs place ([], []) inside) ∙ kept_append test (take place pairs) (at pairs place ∷ [])
      ∙ ap (λ l. kept test (take place pairs) ++ l) (append-nil (if test (at pairs place) then at pairs place ∷ [] else []))

  -- where none passes from a place on, it is all
  pub kept_until : (place : ℕ) → ((i : ℕ) → place ≤ i → i < length pairs → test (at pairs i) ≡ false) → kept test (take place pairs) ≡ kept test pairs
  kept_until place none =
      sym (ap (kept test) (sym (take-append-drop place pairs)) ∙ kept_append test (take place pairs) (drop place pairs)
      ∙ ap (λ l. kept test (take place pairs) ++ l) (none_kept test (drop place pairs) ([], []) (λ k low.
      ap test (get_or-drop place pairs k ([], [])) ∙ none (place + k) (omega arith) (omega (arith, low, length-drop place pairs))))
      ∙ append-nil (kept test (take place pairs)))

  pub kept_past : (place : ℕ) → length pairs ≤ place → kept test (take place pairs) ≡ kept test pairs
  kept_past place past = ap (kept test) (take_all place pairs past)

  pub none_until : (place : ℕ) → ((i : ℕ) → i < place → i < length pairs → test (at pairs i) ≡ false) → kept test (take place pairs) ≡ []
  none_until place none = none_kept test (take place pairs) ([], []) (λ k inside.
      let low : k < place = omega (arith, inside, length-take place pairs) in
      ap test (get_or-take place pairs k ([], []) low) ∙ none k low (omega (arith, inside, length-take place pairs)))

-- no more are kept of its front
kept_upto : (test : Pair → Bool) (pairs : List Pair) (place : ℕ) → length (kept test (take place pairs)) ≤ length (kept test pairs)
kept_upto test pairs place =
    omega (arith, ap (λ l. length (kept test l)) (take-append-drop place pairs), ap (λ (l : List Pair). length l) (kept_append test (take place pairs) (drop place pairs)), length-append (kept test (take place pairs)) (kept test (drop place pairs)))

-- nor by a narrower test
kept_fewer : (test other : Pair → Bool) (pairs : List Pair) → ((pair : Pair) → test pair ≡ true → other pair ≡ true) → length (kept test pairs) ≤ length (kept other pairs)
kept_fewer test other [] within = omega arith
kept_fewer test other (pair ∷ pairs) within = by_test (test pair) refl (kept_fewer test other pairs within)
  where
    by_other : (b : Bool) → length (kept test pairs) ≤ length (kept other pairs) → length (kept test pairs) ≤ length ((if b then pair ∷ [] else []) ++ kept other pairs)
    by_other true rest = omega (arith, rest)
    by_other false rest = rest

    by_test : (b : Bool) → test pair ≡ b → length (kept test pairs) ≤ length (kept other pairs) → length ((if b then pair ∷ [] else []) ++ kept test pairs) ≤ length ((if other pair then pair ∷ [] else []) ++ kept other pairs)
    by_test true is rest = subst (λ b. suc (length (kept test pairs)) ≤ length ((if b then pair ∷ [] else []) ++ kept other pairs)) (sym (within pair is)) (omega (arith, rest))
    by_test false is rest = by_other (other pair) rest

-- ---- the names of a folder or file

-- a record that isn't a further one
abbrev pub own : ℕ → Pair → Bool
own id pair = is_own id (attribute_of pair)

abbrev pub names_in : List Pair → List (List ℕ)
names_in pairs = map (λ (pair : Pair). (attribute_of pair).name) pairs

-- What a walk knows that has gathered these names: it has passed so many pairs behind the key, and the names are those of all pairs before its place.
pub record Gathers (id : ℕ) (start : List ℕ) (whole store : Store) (desk : Desk) (at_ passed : ℕ) (names : List (List ℕ)) : Type 0 where
  pub first : ℕ
  pub above : IsAbove attr_cmp start (pairs_of whole) first
  pub stands : StandsAt store desk at_ (first + passed)
  pub got : names ≡ names_in (kept (own id) (take (first + passed) (pairs_of whole)))
  pub spanned : HasSpanned (is_of id) whole store first (first + passed)

-- the names of the records kept are those of the attributes
names_kept : (id : ℕ) (pairs : List Pair) → names_in (kept (own id) pairs) ≡ names_of id pairs
names_kept id pairs = through (kept (own id) pairs) ∙ ap (map (λ (a : Attribute). a.name)) (kept_mapped attribute_of (is_own id) pairs)
  where
    through : (l : List Pair) → names_in l ≡ map (λ (a : Attribute). a.name) (map attribute_of l)
    through [] = refl
    through (pair ∷ l) = ap (λ r. (attribute_of pair).name ∷ r) (through l)

name_if : (pair : Pair) (b : Bool) → names_in (if b then pair ∷ [] else []) ≡ (if b then attr_units pair.0 ∷ [] else [])
unfolding attribute_of
name_if pair true = refl
name_if pair false = refl

not_own : (id : ℕ) (pair : Pair) → is_of id pair ≡ false → own id pair ≡ false
not_own id pair other = ap (λ b. b && not (is_more (attribute_of pair).value)) other

module _ (id : ℕ) (start : List ℕ) (whole : Store) (rises : AscendByKey (pairs_of whole)) (valued : AreValued (pairs_of whole)) (file : attr_file start ≡ id) (units_are : attr_units start ≡ []) where
  abbrev pairs : List Pair
  pairs = pairs_of whole

  -- it begins where no name is passed
  pub begins : (store : Store) (desk : Desk) (at_ : ℕ) (found : Option ℕ) → found ≡ Some at_ → pairs_of store ≡ pairs → store.loads ≤ whole.loads + whole.shape.depth → Seeks attr_cmp start store desk found → Gathers id start whole store desk at_ 0 []
  begins store desk at_ found is same loads seeks =
      let there = subst (Seeks attr_cmp start store desk) is seeks in
      let above : IsAbove attr_cmp start pairs there.0 = subst (λ l. IsAbove attr_cmp start l there.0) same there.2 in
      let here : there.0 ≡ there.0 + 0 = omega arith in
      record {
        first = there.0;
        above = above;
        stands = subst (StandsAt store desk at_) here there.1;
        got = sym (ap (λ n. names_in (kept (own id) (take n pairs))) (sym here)
            ∙ ap names_in (none_until (own id) pairs there.0 (λ i low fits. not_own id (at pairs i) (none_owned_below id start pairs rises valued.each file units_are there.0 above i low fits))));
        spanned = subst (HasSpanned (is_of id) whole store there.0) here (span_begins (is_of id) whole store there.0 loads);
      }

  module _ (store : Store) (desk : Desk) (at_ passed : ℕ) (names : List (List ℕ)) (known : Gathers id start whole store desk at_ passed names) (next : Store) (after : Desk) (same : pairs_of next ≡ pairs) where
    abbrev place : ℕ
    place = known.first + passed

    inside : HoldsPair next after place → place < length pairs
    inside holds = subst (λ (l : List Pair). place < length l) same holds.inside

    key_is : HoldsPair next after place → after.held.key ≡ (at pairs place).0
    key_is holds = holds.key ∙ ap (λ (l : List Pair). (at l place).0) same

    -- all pairs are passed
    pub ends : (found : Option ℕ) → found ≡ None → StepsOn next after place found → names ≡ names_of id pairs
    ends found none steps =
        known.got ∙ ap names_in (kept_past (own id) pairs place (omega (arith, subst (StepsOn next after place) none steps, ap (λ (l : List Pair). length l) same))) ∙ names_kept id pairs

    -- so many that there is none behind them
    pub ends_past : length pairs ≤ place → names ≡ names_of id pairs
    ends_past past = known.got ∙ ap names_in (kept_past (own id) pairs place past) ∙ names_kept id pairs

    -- what the walk has loaded
    pub ends_loaded : next.loads ≤ store.loads + 1 → next.loads ≤ whole.loads + whole.shape.depth + leaves_where (is_of id) whole + 1
    ends_loaded last = span_ends (is_of id) whole store known.first place known.spanned next (omega arith) last

    -- the pair is another's
    pub leaves_them : (on : ℕ) (found : Option ℕ) → found ≡ Some on → StepsOn next after place found → (attr_file after.held.key ≡ id → ⊥) → names ≡ names_of id pairs
    leaves_them on found some steps other =
        let holds = (subst (StepsOn next after place) some steps).0 in
        let apart : is_of id (at pairs place) ≡ false = false_so _ (λ is. other (ap attr_file (key_is holds) ∙ file_of id (at pairs place) is)) in
        known.got
        ∙ ap names_in (kept_until (own id) pairs place (λ i from fits.
        not_own id (at pairs i) (none_owned_behind id start pairs rises valued.each file units_are place (inside holds) (known.above.behind place (omega arith) (inside holds)) apart i from fits)))
        ∙ names_kept id pairs

    -- the pair is one of them
    pub goes_on : (on : ℕ) (found : Option ℕ) (more : List (List ℕ)) → found ≡ Some on → StepsOn next after place found → attr_file after.held.key ≡ id → more ≡ names ++ (if attr_start after.held.key == 0 then attr_units after.held.key ∷ [] else [])
        → (most : ℕ) → ReadsNodes most whole store → IsTrue whole.tells → next.loads + leaves_until store place ≤ store.loads + leaves_until store (place + 1) → Gathers id start whole next after on (passed + 1) more
    goes_on on found more some steps of_it more_is most reads tells loads =
        let stepped = subst (StepsOn next after place) some steps in
        let holds = stepped.0 in
        let pair = at pairs place in
        let here : place + 1 ≡ known.first + (passed + 1) = omega arith in
        let is : is_of id pair ≡ true = of_file id pair (sym (ap attr_file (key_is holds)) ∙ of_it) in
        let first_is : own id pair ≡ (attr_start pair.0 == 0) = (λ i. is i && not (is_more (attribute_of pair).value)) ∙ sym (first_or_more pairs rises valued place (inside holds)) ∙ ap (λ n. n == 0) (start_is pair) in
        record {
          first = known.first;
          above = known.above;
          stands = subst (StandsAt next after on) here stepped.1;
          got =
              more_is ∙ (λ i. known.got i ++ (if attr_start (key_is holds i) == 0 then attr_units (key_is holds i) ∷ [] else []))
              ∙ ap (λ l. names_in (kept (own id) (take place pairs)) ++ l) (ap (λ b. if b then attr_units pair.0 ∷ [] else []) (sym first_is) ∙ sym (name_if pair (own id pair)))
              ∙ sym (map-append (λ (p : Pair). (attribute_of p).name) (kept (own id) (take place pairs)) (if own id pair then pair ∷ [] else []))
              ∙ ap names_in (sym (kept_next (own id) pairs place (inside holds)))
              ∙ ap (λ n. names_in (kept (own id) (take n pairs))) here;
          spanned = subst (HasSpanned (is_of id) whole next known.first) here (span_goes_on (is_of id) whole store known.first place known.spanned next most reads tells is loads);
        }

-- ---- the extents of an attribute behind its first record

-- a record of the name behind its first
abbrev pub is_later : List ℕ → Pair → Bool
is_later key pair = is_under key pair && not ((attribute_of pair).start == 0)

later_above : (key : List ℕ) (pair : Pair) → attr_start key ≡ 0 → is_later key pair ≡ true → attr_cmp pair.0 key ≡ Greater
later_above key pair start is =
    let both = and_parts (is_under key pair) (not ((attribute_of pair).start == 0)) is in
    let parts = under_parts key pair both.0 in
    let some : attr_start pair.0 ≡ 0 → ⊥ = λ none. not_so (sym (ap (λ n. not (n == 0)) (start_is pair ∙ none)) ∙ both.1) in
    by_start pair.0 key parts.0 parts.1 ∙ sym (nat_cmp_is (attr_start pair.0) (attr_start key) Greater (omega (arith, start, some)))

above_later : (key : List ℕ) (pair : Pair) → attr_start key ≡ 0 → is_under key pair ≡ true → attr_cmp pair.0 key ≡ Greater → is_later key pair ≡ true
above_later key pair start under above =
    let parts = under_parts key pair under in
    let high = is_greater (attr_start pair.0) (attr_start key) (sym (by_start pair.0 key parts.0 parts.1) ∙ above) in
    let some : (attribute_of pair).start ≡ 0 → ⊥ = λ none. absurd (omega (arith, high, sym (start_is pair) ∙ none)) in
    and_from _ _ under (ap not (ne_eqb (attribute_of pair).start 0 some))

not_later : (key : List ℕ) (pair : Pair) → is_under key pair ≡ false → is_later key pair ≡ false
not_later key pair other = ap (λ b. b && not ((attribute_of pair).start == 0)) other

-- What a walk knows that has gathered these extents: it has passed so many pairs behind the key, all of the name.
pub record Follows (key : List ℕ) (whole store : Store) (desk : Desk) (at_ passed : ℕ) (before extents : List Extent) : Type 0 where
  pub first : ℕ
  pub above : IsAbove attr_cmp key (pairs_of whole) first
  pub stands : StandsAt store desk at_ (first + passed)
  pub got : extents ≡ before ++ flat_map extents_of_pair (kept (is_later key) (take (first + passed) (pairs_of whole)))
  pub many : length (kept (is_later key) (take (first + passed) (pairs_of whole))) ≡ passed

module _ (key : List ℕ) (whole : Store) (rises : AscendByKey (pairs_of whole)) (start : attr_start key ≡ 0) (before : List Extent) where
  abbrev pairs_ : List Pair
  pairs_ = pairs_of whole

  pub follow_begins : (store : Store) (desk : Desk) (at_ : ℕ) (found : Option ℕ) → found ≡ Some at_ → pairs_of store ≡ pairs_ → Seeks attr_cmp key store desk found → Follows key whole store desk at_ 0 before before
  follow_begins store desk at_ found is same seeks =
      let there = subst (Seeks attr_cmp key store desk) is seeks in
      let above : IsAbove attr_cmp key pairs_ there.0 = subst (λ l. IsAbove attr_cmp key l there.0) same there.2 in
      let here : there.0 ≡ there.0 + 0 = omega arith in
      let none : kept (is_later key) (take (there.0 + 0) pairs_) ≡ [] =
      ap (λ n. kept (is_later key) (take n pairs_)) (sym here) ∙ none_until (is_later key) pairs_ there.0 (λ i low fits. false_so _ (λ later. above.before i low (later_above key (at pairs_ i) start later))) in
      record {
        first = there.0;
        above = above;
        stands = subst (StandsAt store desk at_) here there.1;
        got = sym (ap (λ l. before ++ flat_map extents_of_pair l) none ∙ append-nil before);
        many = ap (λ (l : List Pair). length l) none;
      }

  -- no pair at all
  pub none_follow : length pairs_ ≡ 0 → later_extents pairs_ (attr_file key) (attr_units key) ≡ []
  none_follow none = sym (kept_extents (λ (a : Attribute). is_record_of (attr_file key) (attr_units key) a && not (a.start == 0)) pairs_) ∙ ap (flat_map extents_of_pair) (none_kept (is_later key) pairs_ ([], []) (λ k inside. absurd (omega (arith, inside, none))))

  module _ (store : Store) (desk : Desk) (at_ passed : ℕ) (extents : List Extent) (known : Follows key whole store desk at_ passed before extents) (next : Store) (after : Desk) (same : pairs_of next ≡ pairs_) where
    abbrev place_ : ℕ
    place_ = known.first + passed

    inside_ : HoldsPair next after place_ → place_ < length pairs_
    inside_ holds = subst (λ (l : List Pair). place_ < length l) same holds.inside

    pub key_is_ : HoldsPair next after place_ → after.held.key ≡ (at pairs_ place_).0
    key_is_ holds = holds.key ∙ ap (λ (l : List Pair). (at l place_).0) same

    pub value_is_ : HoldsPair next after place_ → after.held.value ≡ (at pairs_ place_).1
    value_is_ holds = holds.value ∙ ap (λ (l : List Pair). (at l place_).1) same

    -- what is gathered is all, where what is kept so far is
    whole_is : kept (is_later key) (take place_ pairs_) ≡ kept (is_later key) pairs_ → extents ≡ before ++ later_extents pairs_ (attr_file key) (attr_units key)
    whole_is all = known.got ∙ ap (λ l. before ++ flat_map extents_of_pair l) all ∙ ap (λ l. before ++ l) (kept_extents (λ (a : Attribute). is_record_of (attr_file key) (attr_units key) a && not (a.start == 0)) pairs_)

    pub follow_ends : (found : Option ℕ) → found ≡ None → StepsOn next after place_ found → extents ≡ before ++ later_extents pairs_ (attr_file key) (attr_units key)
    follow_ends found none steps = whole_is (kept_past (is_later key) pairs_ place_ (omega (arith, subst (StepsOn next after place_) none steps, ap (λ (l : List Pair). length l) same)))

    -- so many are passed that there is none behind them
    pub follow_past : length pairs_ ≤ place_ → extents ≡ before ++ later_extents pairs_ (attr_file key) (attr_units key)
    follow_past past = whole_is (kept_past (is_later key) pairs_ place_ past)

    pub follow_leaves : (on : ℕ) (found : Option ℕ) → found ≡ Some on → StepsOn next after place_ found → (is_under key (at pairs_ place_) ≡ true → ⊥) → extents ≡ before ++ later_extents pairs_ (attr_file key) (attr_units key)
    follow_leaves on found some steps other =
        let holds = (subst (StepsOn next after place_) some steps).0 in
        whole_is (kept_until (is_later key) pairs_ place_ (λ i from fits.
        not_later key (at pairs_ i) (none_under_behind key pairs_ rises start place_ (inside_ holds) (known.above.behind place_ (omega arith) (inside_ holds)) (false_so _ other) i from fits)))

    -- one more record than those passed is too many
    pub follow_few : passed ≤ length (kept (is_under key) pairs_)
    follow_few = omega (arith, known.many, kept_upto (is_later key) pairs_ place_, kept_fewer (is_later key) (is_under key) pairs_ (λ pair later. (and_parts (is_under key pair) (not ((attribute_of pair).start == 0)) later).0))

    pub follow_on : (on : ℕ) (found : Option ℕ) (more : List Extent) → found ≡ Some on → StepsOn next after place_ found → is_under key (at pairs_ place_) ≡ true → more ≡ extents ++ extents_of_pair (at pairs_ place_) → Follows key whole next after on (passed + 1) before more
    follow_on on found more some steps under more_is =
        let stepped = subst (StepsOn next after place_) some steps in
        let holds = stepped.0 in
        let pair = at pairs_ place_ in
        let here : place_ + 1 ≡ known.first + (passed + 1) = omega arith in
        let later : is_later key pair ≡ true = above_later key pair start under (known.above.behind place_ (omega arith) (inside_ holds)) in
        let all : kept (is_later key) (take (known.first + (passed + 1)) pairs_) ≡ kept (is_later key) (take place_ pairs_) ++ pair ∷ [] =
        ap (λ n. kept (is_later key) (take n pairs_)) (sym here) ∙ kept_next (is_later key) pairs_ place_ (inside_ holds) ∙ ap (λ b. kept (is_later key) (take place_ pairs_) ++ (if b then pair ∷ [] else [])) later in
        record {
          first = known.first;
          above = known.above;
          stands = subst (StandsAt next after on) here stepped.1;
          got =
              more_is ∙ ap (λ l. l ++ extents_of_pair pair) known.got ∙ append_assoc before (flat_map extents_of_pair (kept (is_later key) (take place_ pairs_))) (extents_of_pair pair)
              ∙ ap (λ l. before ++ l) (ap (λ l. flat_map extents_of_pair (kept (is_later key) (take place_ pairs_)) ++ l) (sym (append-nil (extents_of_pair pair)))
              ∙ sym (flat_map-append extents_of_pair (kept (is_later key) (take place_ pairs_)) (pair ∷ [])) ∙ ap (flat_map extents_of_pair) (sym all));
          many = omega (arith, ap (λ (l : List Pair). length l) all, length-append (kept (is_later key) (take place_ pairs_)) (pair ∷ []), known.many);
        }
