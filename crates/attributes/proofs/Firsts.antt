-- The first record of an attribute holds its value or its fork, and further ones stand behind it.
use Rattle.std.proofs.Common.{◌≡◌, ◌⊎◌, inl, inr, ℕ, zero, suc, ◌+◌, ◌<◌, Bool, true, false, cond, List, [], ◌∷◌, ◌++◌, drop, take, length, map, refl, sym, ◌∙◌, ap, subst, arith}
use Rattle.std.specs.Prelude.{All, Contains, slice_index_or, count_by, ◌==◌, ◌&&◌, not, None, Some, if◌then◌else◌}
use Rattle.std.specs.List.{find, flat_map}
use Rattle.std.specs.Str.{bytes_eq}
use Rattle.std.specs.Ordering.{nat_cmp}
use Rattle.std.specs.declared.cmp.Ordering.TheVariants.{Equal}
use Rattle.std.proofs.lemmas.Cmp.{nat_cmp_total}
use Rattle.std.proofs.lemmas.Bool.{and_from, and_parts, cases_lt, ne_eqb, eq-eqb, eqb-true, true≢false}
use Rattle.std.proofs.lemmas.Slice.Eq.{bytes_eq-Decides}
use Rattle.std.proofs.lemmas.List.{get_or-map, length-map, get_or-drop, length-drop}
use Rattle.btree_node.specs.Keys.{attr_cmp, attr_file, attr_start, attr_units}
use Rattle.btree_node.specs.KeyLaws.{attr_total}
use Rattle.btree_node.specs.Levels.{Pair}
use Rattle.cat_records.specs.declared.attribute.AttrRecord.{AttrRecord}
use Rattle.cat_records.specs.declared.attribute.AttrRecord.TheVariants as attribute
use Rattle.hfs_model.specs.Sorted.{kept}
use Rattle.hfs_volume.specs.Changes.{DropsAttribute, is_attribute_of}
use Rattle.hfs_volume.specs.Records.{Attribute, attribute_of}
use Rattle.hfs_volume.specs.Values.{IsValue, IsValueIn, has_fork, is_more, is_record_of, value_extents}
use Rattle.hfs_volume.proofs.Members.{each_of}
use Rattle.hfs_volume.proofs.Valued.{by_id_and_name, kept_mapped, not_named, values_left}
use Rattle.attributes.specs.Dropping.{IsFirstAt, extents_of_pair, is_first, is_named}
use Rattle.attributes.specs.Owned.{attributes_at, is_of, is_own}
use Rattle.attributes.specs.Values.{AreSpelled, AreValued, IsSpelledAttribute, later_extents, value_at, value_in, value_of_first}
use Rattle.attributes.proofs.Lists.{count_both, false_so, kept_agree, kept_all, kept_append, kept_first, none_before, parted}
use Rattle.attributes.proofs.Places.{AscendByKey, by_start, cmp_same, is_less, is_under, one_ties, tied_starts, under_parts}
use Rattle.attributes.proofs.Removing.{kept_extents}

abbrev at : List Pair → ℕ → Pair
at pairs k = slice_index_or pairs k ([], [])

abbrev pub items : List Pair → List Attribute
items pairs = map attribute_of pairs

-- ---- the first that passes

-- either none passes, or there is a first one
pub first_place : (test : Pair → Bool) (pairs : List Pair) → (kept test pairs ≡ []) ⊎ ((k : ℕ) × IsFirstAt test pairs k)
first_place test [] = inl refl
first_place test (pair ∷ pairs) = by_test (test pair) refl (first_place test pairs)
  where
    before : (k : ℕ) → IsFirstAt test pairs k → test pair ≡ false → (i : ℕ) → i < suc k → test (at (pair ∷ pairs) i) ≡ false
    before k found is zero low = is
    before k found is (suc i) low = found.before i (omega (arith, low))

    none : (i : ℕ) → i < 0 → test (at (pair ∷ pairs) i) ≡ false
    none i low = absurd (omega (arith, low))

    by_test : (b : Bool) → test pair ≡ b → (kept test pairs ≡ []) ⊎ ((k : ℕ) × IsFirstAt test pairs k) → (kept test (pair ∷ pairs) ≡ []) ⊎ ((k : ℕ) × IsFirstAt test (pair ∷ pairs) k)
    by_test true is rest = inr (0, record { inside = omega arith; passes = is; before = none })
    by_test false is (inl none_later) = inl (λ i. (if is i then pair ∷ [] else []) ++ none_later i)
    by_test false is (inr later) = inr (suc later.0, record { inside = omega (arith, later.1.inside); passes = later.1.passes; before = before later.0 later.1 is })

-- ---- what the records of values say

-- the record of a value's fork
record ForkOf (pairs : List Pair) (record_ : Attribute) : Type 0 where
  place : ℕ
  inside : place < length pairs
  of : is_record_of record_.id record_.name (attribute_of (at pairs place)) ≡ true
  fork : has_fork (attribute_of (at pairs place)).value ≡ true
  start : (attribute_of (at pairs place)).start ≡ 0

fork_starts : (attributes : List Attribute) (a : Attribute) (value : AttrRecord) → has_fork value ≡ true → IsValueIn attributes a value → a.start ≡ 0
fork_starts attributes a (attribute.Inline v) is value = absurd (true≢false (sym is))
fork_starts attributes a (attribute.Fork fork) is value = value.0
fork_starts attributes a (attribute.More extents) is value = absurd (true≢false (sym is))

fork_or_more : (value : AttrRecord) → has_fork value ≡ true → is_more value ≡ true → ⊥
fork_or_more (attribute.Inline v) fork more = true≢false (sym fork)
fork_or_more (attribute.Fork f) fork more = true≢false (sym more)
fork_or_more (attribute.More extents) fork more = true≢false (sym fork)

pub file_is : (pair : Pair) → (attribute_of pair).id ≡ attr_file pair.0
unfolding attribute_of
file_is pair = refl

pub name_is : (pair : Pair) → (attribute_of pair).name ≡ attr_units pair.0
unfolding attribute_of
name_is pair = refl

pub start_is : (pair : Pair) → (attribute_of pair).start ≡ attr_start pair.0
unfolding attribute_of
start_is pair = refl

pub named_parts : (id : ℕ) (name : List ℕ) (pair : Pair) → is_named id name pair ≡ true → (attr_file pair.0 ≡ id) × (attr_units pair.0 ≡ name)
unfolding attribute_of
named_parts id name pair is =
    let parts = and_parts (attr_file pair.0 == id) (bytes_eq (attr_units pair.0) name) is in
    (eqb-true (attr_file pair.0) id parts.0, (bytes_eq-Decides (attr_units pair.0) name).0 parts.1)

module _ (pairs : List Pair) (rises : AscendByKey pairs) (valued : AreValued pairs) where
  value_is : (k : ℕ) → k < length pairs → IsValue (items pairs) (attribute_of (at pairs k))
  value_is k inside = subst (IsValue (items pairs)) (get_or-map attribute_of pairs k ([], []) (attribute_of ([], [])) inside) (valued.values k (attribute_of ([], [])) (omega (arith, inside, length-map pairs attribute_of)))

  fork_of_more : (k : ℕ) → k < length pairs → is_more (attribute_of (at pairs k)).value ≡ true → ForkOf pairs (attribute_of (at pairs k))
  fork_of_more k inside more = by_value (attribute_of (at pairs k)).value more (value_is k inside)
    where
      by_value : (value : AttrRecord) → is_more value ≡ true → IsValueIn (items pairs) (attribute_of (at pairs k)) value → ForkOf pairs (attribute_of (at pairs k))
      by_value (attribute.Inline v) is value = absurd (true≢false (sym is))
      by_value (attribute.Fork fork) is value = absurd (true≢false (sym is))
      by_value (attribute.More extents) is value =
          let first = value.0 in
          let there : Contains (items pairs) first = value.1 in
          let within : there.0 < length pairs = omega (arith, there.1, length-map pairs attribute_of) in
          let same : attribute_of (at pairs there.0) ≡ first = sym (get_or-map attribute_of pairs there.0 ([], []) first within) ∙ there.2 in
          record {
            place = there.0;
            inside = within;
            of = ap (is_record_of (attribute_of (at pairs k)).id (attribute_of (at pairs k)).name) same ∙ value.2;
            fork = ap (λ (a : Attribute). has_fork a.value) same ∙ value.3;
            start = ap (λ (a : Attribute). a.start) same ∙ fork_starts (items pairs) first first.value value.3 (each_of (IsValue (items pairs)) (items pairs) valued.values first there);
          }

  -- the first record of a name isn't a further one
  pub first_is_own : (key : List ℕ) (k : ℕ) → IsFirstAt (is_under key) pairs k → is_more (attribute_of (at pairs k)).value ≡ false
  first_is_own key k found = false_so (is_more (attribute_of (at pairs k)).value) (λ more.
      let fork = fork_of_more k found.inside more in
      let own = under_parts key (at pairs k) found.passes in
      let of_own : is_under (at pairs k).0 (at pairs fork.place) ≡ true = (λ i. is_record_of (sym (file_is (at pairs k)) i) (sym (name_is (at pairs k)) i) (attribute_of (at pairs fork.place))) ∙ fork.of in
      let parts = under_parts (at pairs k).0 (at pairs fork.place) of_own in
      elim (cases_lt fork.place k) [
        | inl low ↦
            let under : is_under key (at pairs fork.place) ≡ true = (λ i. is_named (sym (own.0) i) (sym (own.1) i) (at pairs fork.place)) ∙ of_own in
            absurd (true≢false (sym under ∙ found.before fork.place low))
        | inr from ↦ elim (cases_lt k fork.place) [
          | inl behind ↦
              let less = is_less (attr_start (at pairs k).0) (attr_start (at pairs fork.place).0) (sym (by_start (at pairs k).0 (at pairs fork.place).0 (sym parts.0) (sym parts.1)) ∙ rises k fork.place behind fork.inside) in
              absurd (omega (arith, less, sym (start_is (at pairs fork.place)) ∙ fork.start))
          | inr most ↦
              let same : fork.place ≡ k = omega (arith, from, most) in
              absurd (fork_or_more (attribute_of (at pairs k)).value (ap (λ n. has_fork (attribute_of (at pairs n)).value) (sym same) ∙ fork.fork) more)
        ]
      ])

  -- the same by the name
  pub first_named : (id : ℕ) (name : List ℕ) (k : ℕ) → IsFirstAt (is_named id name) pairs k → is_more (attribute_of (at pairs k)).value ≡ false
  first_named id name k found =
      let parts = named_parts id name (at pairs k) found.passes in
      let key = (at pairs k).0 in
      first_is_own key k (subst (λ n. IsFirstAt (is_named n (attr_units key)) pairs k) (sym parts.0) (subst (λ l. IsFirstAt (is_named id l) pairs k) (sym parts.1) found))

  -- a record begins its value exactly where it isn't a further one
  pub first_or_more : (k : ℕ) → k < length pairs → is_first (at pairs k) ≡ not (is_more (attribute_of (at pairs k)).value)
  first_or_more k inside = by_value (attribute_of (at pairs k)).value refl (value_is k inside)
    where
      by_value : (value : AttrRecord) → (attribute_of (at pairs k)).value ≡ value → IsValueIn (items pairs) (attribute_of (at pairs k)) value → is_first (at pairs k) ≡ not (is_more value)
      by_value (attribute.Inline v) is value = eq-eqb _ 0 value
      by_value (attribute.Fork fork) is value = eq-eqb _ 0 value.0
      by_value (attribute.More extents) is value = false_so (is_first (at pairs k)) (λ first.
          let fork = fork_of_more k inside (ap is_more is) in
          let of_own : is_under (at pairs k).0 (at pairs fork.place) ≡ true = (λ i. is_record_of (sym (file_is (at pairs k)) i) (sym (name_is (at pairs k)) i) (attribute_of (at pairs fork.place))) ∙ fork.of in
          let parts = under_parts (at pairs k).0 (at pairs fork.place) of_own in
          let begins : attr_start (at pairs fork.place).0 ≡ attr_start (at pairs k).0 = sym (start_is (at pairs fork.place)) ∙ fork.start ∙ sym (eqb-true _ 0 first) ∙ start_is (at pairs k) in
          let ties : attr_cmp (at pairs fork.place).0 (at pairs k).0 ≡ Equal =
          by_start (at pairs fork.place).0 (at pairs k).0 parts.0 parts.1 ∙ ap (λ n. nat_cmp n (attr_start (at pairs k).0)) begins ∙ cmp_same nat_cmp_total (attr_start (at pairs k).0) in
          let same = one_ties (at pairs k).0 pairs fork.place k rises fork.inside inside ties (cmp_same attr_total (at pairs k).0) in
          fork_or_more (attribute_of (at pairs k)).value (ap (λ n. has_fork (attribute_of (at pairs n)).value) (sym same) ∙ fork.fork) (ap is_more is))

-- as many attributes as first records
pub counted_attributes : (id : ℕ) (pairs : List Pair) → AscendByKey pairs → AreValued pairs → count_by is_first (kept (is_of id) pairs) ≡ attributes_at pairs id
counted_attributes id pairs rises valued =
    count_both (is_of id) is_first (λ pair. is_own id (attribute_of pair)) pairs ([], []) (λ k inside. λ i. is_of id (at pairs k) && sym (first_or_more pairs rises valued k inside) i)

-- ---- the value of a name

found_at : {X : Type 0} (test : X → Bool) (xs : List X) (d : X) (k : ℕ) → k < length xs → test (slice_index_or xs k d) ≡ true → ((i : ℕ) → i < k → test (slice_index_or xs i d) ≡ false)
    → find test xs ≡ Some (slice_index_or xs k d)
found_at test [] d k inside is before = absurd (omega (arith, inside))
found_at test (x ∷ xs) d zero inside is before = ap (λ b. cond b (Some x) (find test xs)) is
found_at test (x ∷ xs) d (suc k) inside is before =
    ap (λ b. cond b (Some x) (find test xs)) (before 0 (omega arith)) ∙ found_at test xs d k (omega (arith, inside)) is (λ i less. before (suc i) (omega (arith, less)))

pub found_first : (id : ℕ) (name : List ℕ) (pairs : List Pair) (k : ℕ) → IsFirstAt (is_named id name) pairs k → find (is_attribute_of id name) (items pairs) ≡ Some (attribute_of (at pairs k))
found_first id name pairs k found =
    let none = attribute_of ([], []) in
    let place : (i : ℕ) → i < length pairs → slice_index_or (items pairs) i none ≡ attribute_of (at pairs i) = λ i less. get_or-map attribute_of pairs i ([], []) none less in
    let test = is_attribute_of id name in
    found_at test (items pairs) none k (omega (arith, found.inside, length-map pairs attribute_of)) (ap test (place k found.inside) ∙ found.passes)
    (λ i less. ap test (place i (omega (arith, less, found.inside))) ∙ found.before i less)
    ∙ ap (λ a. Some a) (place k found.inside)

none_found : (id : ℕ) (name : List ℕ) (pairs : List Pair) → kept (is_named id name) pairs ≡ [] → find (is_attribute_of id name) (items pairs) ≡ None
none_found id name [] none = refl
none_found id name (pair ∷ pairs) none = by_test (is_named id name pair) refl (none_found id name pairs)
  where
    by_test : (b : Bool) → is_named id name pair ≡ b → (kept (is_named id name) pairs ≡ [] → find (is_attribute_of id name) (items pairs) ≡ None) → find (is_attribute_of id name) (items (pair ∷ pairs)) ≡ None
    by_test true is rest = absurd (omega (arith, ap (λ (l : List Pair). length l) (sym (λ i. (if is i then pair ∷ [] else []) ++ kept (is_named id name) pairs) ∙ none)))
    by_test false is rest = ap (λ b. cond b (Some (attribute_of pair)) (find (is_attribute_of id name) (items pairs))) is ∙ rest (sym (λ i. (if is i then pair ∷ [] else []) ++ kept (is_named id name) pairs) ∙ none)

-- no record, no value
pub no_value : (id : ℕ) (name : List ℕ) (pairs : List Pair) → kept (is_named id name) pairs ≡ [] → value_at pairs id name ≡ None
no_value id name pairs none = ap (value_of_first (items pairs) id name) (none_found id name pairs none)

-- the value is the one that the first record tells
pub value_of_record : (id : ℕ) (name : List ℕ) (pairs : List Pair) (k : ℕ) → IsFirstAt (is_named id name) pairs k → value_at pairs id name ≡ value_in (items pairs) id name (attribute_of (at pairs k)).value
value_of_record id name pairs k found = ap (value_of_first (items pairs) id name) (found_first id name pairs k found)

-- the first record and those behind it
pub first_then_later : (key : List ℕ) (pairs : List Pair) (k : ℕ) → AscendByKey pairs → k < length pairs → attr_cmp (at pairs k).0 key ≡ Equal → attr_start key ≡ 0 → IsFirstAt (is_under key) pairs k
    → value_extents (items pairs) (attr_file key) (attr_units key) ≡ extents_of_pair (at pairs k) ++ later_extents pairs (attr_file key) (attr_units key)
first_then_later key pairs k rises inside ties start found =
    sym (kept_extents (is_record_of (attr_file key) (attr_units key)) pairs)
    ∙ ap (flat_map extents_of_pair) (kept_first (is_under key) pairs ([], []) k inside found.passes found.before)
    ∙ ap (λ l. extents_of_pair (at pairs k) ++ flat_map extents_of_pair l) (behind_agree ∙ sym whole)
    ∙ ap (λ l. extents_of_pair (at pairs k) ++ l) (kept_extents (λ (a : Attribute). is_record_of (attr_file key) (attr_units key) a && not (a.start == 0)) pairs)
  where
    later : Pair → Bool
    later pair = is_under key pair && not ((attribute_of pair).start == 0)

    begins : (attribute_of (at pairs k)).start ≡ 0
    begins = start_is (at pairs k) ∙ tied_starts (at pairs k).0 key ties ∙ start

    not_first : later (at pairs k) ≡ false
    not_first = (λ i. found.passes i && not (begins i == 0))

    not_before : (i : ℕ) → i < k → later (at pairs i) ≡ false
    not_before i low = ap (λ b. b && not ((attribute_of (at pairs i)).start == 0)) (found.before i low)

    behind_agree : kept (is_under key) (drop (suc k) pairs) ≡ kept later (drop (suc k) pairs)
    behind_agree = kept_agree (is_under key) later (drop (suc k) pairs) ([], []) (λ i low.
        let same = get_or-drop (suc k) pairs i ([], []) in
        let fits : suc k + i < length pairs = omega (arith, low, length-drop (suc k) pairs) in
        ap (is_under key) same ∙ agree (suc k + i) (omega arith) fits (is_under key (at pairs (suc k + i))) refl ∙ sym (ap later same))
      where
        agree : (i : ℕ) → k < i → i < length pairs → (b : Bool) → is_under key (at pairs i) ≡ b → is_under key (at pairs i) ≡ later (at pairs i)
        agree i behind fits false is = is ∙ sym (ap (λ b. b && not ((attribute_of (at pairs i)).start == 0)) is)
        agree i behind fits true is =
            let some : (attribute_of (at pairs i)).start ≡ 0 → ⊥ = λ none.
            let parts = under_parts key (at pairs i) is in
            let tied : attr_cmp (at pairs i).0 key ≡ Equal = by_start (at pairs i).0 key parts.0 parts.1 ∙ (λ j. nat_cmp ((sym (start_is (at pairs i)) ∙ none ∙ sym start) j) (attr_start key)) ∙ cmp_same nat_cmp_total (attr_start key) in
            let same = one_ties key pairs i k rises fits inside tied ties in
            absurd (omega (arith, same, behind)) in
            is ∙ sym (and_from _ _ is (ap not (ne_eqb (attribute_of (at pairs i)).start 0 some)))

    whole : kept later pairs ≡ kept later (drop (suc k) pairs)
    whole =
        ap (kept later) (parted pairs ([], []) k inside) ∙ kept_append later (take k pairs) (at pairs k ∷ drop (suc k) pairs)
        ∙ (λ i. none_before later pairs ([], []) k not_before i ++ ((if not_first i then at pairs k ∷ [] else []) ++ kept later (drop (suc k) pairs)))

-- where there is a record there is a value
pub value_there : (id : ℕ) (name : List ℕ) (pairs : List Pair) → AscendByKey pairs → AreValued pairs → (length (kept (is_named id name) pairs) ≡ 0 → ⊥) → value_at pairs id name ≡ None → ⊥
value_there id name pairs rises valued some none = elim (first_place (is_named id name) pairs) [
  | inl nothing ↦ some (ap (λ (l : List Pair). length l) nothing)
  | inr found ↦ by_value (attribute_of (at pairs found.0)).value (first_named pairs rises valued id name found.0 found.1) (sym (value_of_record id name pairs found.0 found.1) ∙ none)
]
  where
    by_value : (value : AttrRecord) → is_more value ≡ false → value_in (items pairs) id name value ≡ None → ⊥
    by_value (attribute.Inline v) own is = cc
    by_value (attribute.Fork fork) own is = cc
    by_value (attribute.More extents) own is = true≢false own

-- ---- what drops leave

-- a name dropped leaves values
pub dropped_valued : (id : ℕ) (name : List ℕ) (old new : List Pair) → DropsAttribute id name old new → AreValued old → AreValued new
dropped_valued id name old new drops valued = record {
  each = subst AreSpelled (sym drops) (kept_all IsSpelledAttribute (λ pair. not (is_named id name pair)) old valued.each);
  values = subst (λ l. All (IsValue l) l) (sym (ap (map attribute_of) drops ∙ kept_mapped attribute_of (λ a. not_named id name a.id a.name) old))
      (values_left (λ a. not_named id name a.id a.name) (by_id_and_name (not_named id name)) (items old) valued.values);
}

-- so does a folder or file dropped
abbrev not_of : ℕ → ℕ → List ℕ → Bool
not_of id other name = not (other == id)

pub owner_valued : (id : ℕ) (old new : List Pair) → new ≡ kept (λ pair. not ((attribute_of pair).id == id)) old → AreValued old → AreValued new
owner_valued id old new drops valued = record {
  each = subst AreSpelled (sym drops) (kept_all IsSpelledAttribute (λ pair. not ((attribute_of pair).id == id)) old valued.each);
  values = subst (λ l. All (IsValue l) l) (sym (ap (map attribute_of) drops ∙ kept_mapped attribute_of (λ a. not_of id a.id a.name) old))
      (values_left (λ a. not_of id a.id a.name) (by_id_and_name (not_of id)) (items old) valued.values);
}
