-- The attributes file as a map: setting a value is an insertion, dropping one a deletion.
use Rattle.std.proofs.Common.{◌≡◌, ℕ, Bool, true, false, cond, List, [], ◌∷◌, ◌++◌, take, drop, length, map, refl, sym, ◌∙◌, ap, arith}
use Rattle.std.specs.Prelude.{Option, None, Some, not, ◌==◌, if◌then◌else◌}
use Rattle.std.specs.List.{find, flat_map}
use Rattle.std.specs.Str.{bytes_eq}
use Rattle.std.proofs.lemmas.Bool.{and_from, and_parts, eq-eqb, eqb-true}
use Rattle.std.proofs.lemmas.List.{take-append-drop}
use Rattle.std.proofs.lemmas.Slice.Eq.{bytes_eq-Decides}
use Rattle.hx_bytes.specs.declared.extents.Extent.{Extent}
use Rattle.btree_node.specs.Levels.{Pair}
use Rattle.cat_records.specs.declared.attribute.AttrRecord.{AttrRecord}
use Rattle.cat_records.specs.declared.attribute.AttrRecord.TheVariants as attribute
use Rattle.hfs_model.specs.Sorted.{kept}
use Rattle.hfs_volume.specs.Changes.{DropsAttribute, SetsFork, is_attribute_of}
use Rattle.hfs_volume.specs.Records.{Attribute, attribute_of}
use Rattle.hfs_volume.specs.Values.{used_extents}
use Rattle.hfs_volume.proofs.Valued.{kept_mapped, kept_within}
use Rattle.attributes.specs.Dropping.{is_named}
use Rattle.attributes.specs.Maps.{DeletesValue, InsertsValue}
use Rattle.attributes.specs.Values.{SetsValue, value_at, value_in, value_of_first}
use Rattle.attributes.specs.declared.value.ValueAt.{ValueAt}
use Rattle.attributes.specs.declared.value.ValueAt.TheVariants as held
use Rattle.attributes.proofs.Lists.{false_so, kept_append, kept_twice, none_left}

-- ---- a value by the records of its name alone

first_in : List Attribute → Option Attribute
first_in [] = None
first_in (a ∷ rest) = Some a

found_first : (test : Attribute → Bool) (items : List Attribute) → find test items ≡ first_in (kept test items)
unfolding first_in
found_first test [] = refl
found_first test (a ∷ items) = by_test (test a) (found_first test items)
  where
    by_test : (b : Bool) → find test items ≡ first_in (kept test items) → cond b (Some a) (find test items) ≡ first_in ((if b then a ∷ [] else []) ++ kept test items)
    by_test true rest = refl
    by_test false rest = rest

-- the value that records of one name tell
value_told : List Attribute → Option Attribute → Option ValueAt
value_told records None = None
value_told records (Some first) = told first.value
  where
    told : AttrRecord → Option ValueAt
    told (attribute.Inline value) = Some (held.Inline value)
    told (attribute.Fork fork) = Some (held.Blocks fork.logical_size (flat_map used_extents records))
    told (attribute.More extents) = None

value_by : (pairs : List Pair) (id : ℕ) (name : List ℕ) → value_at pairs id name ≡ value_told (map attribute_of (kept (is_named id name) pairs)) (first_in (map attribute_of (kept (is_named id name) pairs)))
unfolding value_told
value_by pairs id name =
    by_found (find test (map attribute_of pairs))
    ∙ (λ i. value_told (sym same i) ((found_first test (map attribute_of pairs) ∙ ap first_in (sym same)) i))
  where
    test : Attribute → Bool
    test = is_attribute_of id name

    same : map attribute_of (kept (is_named id name) pairs) ≡ kept test (map attribute_of pairs)
    same = kept_mapped attribute_of test pairs

    by_found : (found : Option Attribute) → value_of_first (map attribute_of pairs) id name found ≡ value_told (kept test (map attribute_of pairs)) found
    by_found None = refl
    by_found (Some first) = by_value first.value
      where
        by_value : (value : AttrRecord) → value_in (map attribute_of pairs) id name value ≡ value_told (kept test (map attribute_of pairs)) (Some (record first { value = value }))
        by_value (attribute.Inline value) = refl
        by_value (attribute.Fork fork) = refl
        by_value (attribute.More extents) = refl

same_value : (one other : List Pair) (id : ℕ) (name : List ℕ) → kept (is_named id name) one ≡ kept (is_named id name) other → value_at one id name ≡ value_at other id name
same_value one other id name same =
    value_by one id name ∙ ap (λ l. value_told (map attribute_of l) (first_in (map attribute_of l))) same ∙ sym (value_by other id name)

-- ---- names that differ

-- two names are apart
names_apart : (id other : ℕ) (name other_name : List ℕ) → (other ≡ id → other_name ≡ name → ⊥) → (pair : Pair) → is_named other other_name pair ≡ true → not (is_named id name pair) ≡ true
names_apart id other name other_name apart pair passes = ap not (false_so (is_named id name pair) (λ is.
    let a = attribute_of pair in
    let one = and_parts (a.id == id) (bytes_eq a.name name) is in
    let two = and_parts (a.id == other) (bytes_eq a.name other_name) passes in
    apart (sym (eqb-true a.id other two.0) ∙ eqb-true a.id id one.0) (sym ((bytes_eq-Decides a.name other_name).0 two.1) ∙ (bytes_eq-Decides a.name name).0 one.1)))

between_none : (front back : List Pair) (item : Pair) → front ++ back ≡ [] → front ++ (item ∷ back) ≡ item ∷ []
between_none [] back item none = ap (λ l. item ∷ l) none
between_none (pair ∷ front) back item none = absurd (omega (arith, ap (λ (l : List Pair). length l) none))

module _ (id : ℕ) (name : List ℕ) (old new : List Pair) where
  -- where all records of other names are the same, so are their values
  others_same : kept (λ pair. not (is_named id name pair)) new ≡ kept (λ pair. not (is_named id name pair)) old → (other : ℕ) (other_name : List ℕ) → (other ≡ id → other_name ≡ name → ⊥) → value_at new other other_name ≡ value_at old other other_name
  others_same others other other_name apart =
      let within = kept_within (is_named other other_name) (λ pair. not (is_named id name pair)) (names_apart id other name other_name apart) in
      same_value new old other other_name (sym (within new) ∙ ap (kept (is_named other other_name)) others ∙ within old)

  pub deleted : DropsAttribute id name old new → DeletesValue id name old new
  unfolding value_told first_in
  deleted drops = record {
    gone = value_by new id name ∙ ap (λ l. value_told (map attribute_of l) (first_in (map attribute_of l))) (ap (kept (is_named id name)) drops ∙ none_left (is_named id name) old);
    others = others_same (ap (kept (λ pair. not (is_named id name pair))) drops ∙ kept_twice (λ pair. not (is_named id name pair)) old);
  }

  pub inserted : (value : List ℕ) → SetsValue id name value old new → InsertsValue id name (held.Inline value) old new
  unfolding value_told first_in
  inserted value sets = record {
    there =
        value_by new id name ∙ ap (λ l. value_told (map attribute_of l) (first_in (map attribute_of l))) alone
        ∙ ap (λ (a : Attribute). value_told (a ∷ []) (Some a)) sets.adds.stands;
    others = others_same (apart ∙ ap (kept rest) sets.bares ∙ kept_twice rest old);
  }
    where
      rest : Pair → Bool
      rest pair = not (is_named id name pair)

      item : Pair
      item = sets.adds.pair

      own : is_named id name item ≡ true
      own = ap (is_attribute_of id name) sets.adds.stands ∙ and_from (id == id) (bytes_eq name name) (eq-eqb id id refl) ((bytes_eq-Decides name name).1 refl)

      front : List Pair
      front = take sets.adds.added.place sets.bared

      back : List Pair
      back = drop sets.adds.added.place sets.bared

      none : kept (is_named id name) front ++ kept (is_named id name) back ≡ []
      none = sym (kept_append (is_named id name) front back) ∙ ap (kept (is_named id name)) (take-append-drop sets.adds.added.place sets.bared ∙ sets.bares) ∙ none_left (is_named id name) old

      alone : kept (is_named id name) new ≡ item ∷ []
      alone =
          ap (kept (is_named id name)) sets.adds.added.is ∙ kept_append (is_named id name) front (item ∷ back)
          ∙ (λ i. kept (is_named id name) front ++ ((if own i then item ∷ [] else []) ++ kept (is_named id name) back))
          ∙ between_none (kept (is_named id name) front) (kept (is_named id name) back) item none

      apart : kept rest new ≡ kept rest sets.bared
      apart =
          ap (kept rest) sets.adds.added.is ∙ kept_append rest front (item ∷ back) ∙ (λ i. kept rest front ++ ((if not (own i) then item ∷ [] else []) ++ kept rest back))
          ∙ sym (kept_append rest front back) ∙ ap (kept rest) (take-append-drop sets.adds.added.place sets.bared)

  pub forked : (size : ℕ) (extents : List Extent) → SetsFork id name size extents old new → InsertsValue id name (held.Blocks size extents) old new
  unfolding value_told first_in
  forked size extents sets = record {
    there =
        value_by new id name ∙ ap (λ l. value_told (map attribute_of l) (first_in (map attribute_of l))) sets.records
        ∙ ap (λ (a : Attribute). value_told (a ∷ map attribute_of sets.further) (Some a)) sets.is_first
        ∙ (λ i. Some (held.Blocks (sets.size_is i) (sets.extents_are i)));
    others = others_same sets.others;
  }
