-- The attribute of a name, and the names of a folder or file, told by its records and by the attributes with their values in their records.
use Rattle.std.proofs.Common.{◌≡◌, ◌⊎◌, ℕ, ◌==◌, Bool, true, false, List, [], ◌∷◌, ◌++◌, map, inl, inr, refl, sym, ◌∙◌, ap, subst, arith}
use Rattle.std.specs.Prelude.{Contains, All, ◌&&◌, nat_lt, not, find, Some, cond, if◌then◌else◌}
use Rattle.std.specs.Option.{option_map}
use Rattle.std.specs.Str.{bytes_eq}
use Rattle.std.specs.List.{AllByRecursion, flat_map}
use Rattle.std.specs.Ordering.{is_lt, nat_cmp, ordering_then}
use Rattle.std.specs.Cmp.Lexicographic.{slice_cmp}
use Rattle.std.proofs.lemmas.Bool.{eqb-true, true≢false, and_parts}
use Rattle.std.proofs.lemmas.Slice.Eq.{bytes_eq-Decides}
use Rattle.cat_records.specs.declared.attribute.AttrRecord.{AttrRecord}
use Rattle.cat_records.specs.declared.attribute.AttrRecord.TheVariants as attribute
use Rattle.hfs_model.specs.Sorted.{kept, IsInOrder}
use Rattle.hfs_volume.specs.Records.{Attribute}
use Rattle.hfs_volume.specs.Values.{IsValue, IsValueIn, has_fork, is_more, is_record_of, value_extents}
use Rattle.hfs_volume.specs.TreeOf.{BytesOf, valued, with_value}
use Rattle.hfs_volume.specs.Changes.{attribute_before}
use Rattle.hfs_volume.proofs.Seeing.{same_number}
use Rattle.std.specs.declared.cmp.Ordering.TheVariants.{Less, Equal, Greater}
use Rattle.hfs_volume.proofs.Flat.{found_some, some_same}
use Rattle.hfs_volume.proofs.Members.{each_of, first_or_later}

all_in : {X : Type 0} (P : X → Type 0) (xs : List X) → AllByRecursion P xs → (x : X) → Contains xs x → P x
all_in P [] all x there = absurd (omega (arith, there.1))
all_in P (y ∷ ys) all x there = elim (first_or_later y x ys there) [
  | inl same ↦ subst P (sym same) all.0
  | inr later ↦ all_in P ys all.1 x later
]

-- what passes a test in a sorted list is the first that does, or stands behind it
found_before : {X : Type 0} (before : X → X → Bool) (test : X → Bool) (xs : List X) (first : X) → IsInOrder before xs → find test xs ≡ Some first → (x : X) → Contains xs x → test x ≡ true → (x ≡ first) ⊎ (before first x ≡ true)
found_before before test [] first order found x there passes = absurd (omega (arith, there.1))
found_before {X} before test (y ∷ ys) first order found x there passes = by_test (test y) refl (λ rest later. found_before before test ys first order.1 rest x later passes) (first_or_later y x ys there)
  where
    by_test : (b : Bool) → test y ≡ b → (find test ys ≡ Some first → Contains ys x → (x ≡ first) ⊎ (before first x ≡ true)) → (x ≡ y) ⊎ Contains ys x → (x ≡ first) ⊎ (before first x ≡ true)
    by_test true is among (inl same) = inl (same ∙ some_same y first (ap (λ b. if b then Some y else find test ys) (sym is) ∙ found))
    by_test true is among (inr later) =
        let here : y ≡ first = some_same y first (ap (λ b. if b then Some y else find test ys) (sym is) ∙ found) in
        inr (ap (λ z. before z x) (sym here) ∙ all_in (λ z. before y z ≡ true) ys order.0 x later)
    by_test false is among (inl same) = absurd (true≢false (sym passes ∙ ap test same ∙ is))
    by_test false is among (inr later) = among (ap (λ b. if b then Some y else find test ys) (sym is) ∙ found) later

-- ---- the first record of a name

not_below_itself : (n : ℕ) → nat_lt n n ≡ false
not_below_itself n = grind arith

same_cmp : (n : ℕ) → nat_cmp n n ≡ nat_cmp 0 0
same_cmp n = λ i. cond (not_below_itself n i) Less (cond (same_number n i) Equal Greater)

same_names : (name : List ℕ) → slice_cmp nat_cmp name name ≡ nat_cmp 0 0
same_names [] = refl
same_names (unit ∷ rest) = ap (λ o. ordering_then o (slice_cmp nat_cmp rest rest)) (same_cmp unit) ∙ same_names rest

-- a record doesn't stand before one of the same name that begins at 0
not_before_start : (one other : Attribute) → one.id ≡ other.id → one.name ≡ other.name → other.start ≡ 0 → attribute_before one other ≡ false
not_before_start one other id name start =
    (λ i. is_lt (ordering_then (nat_cmp (id i) other.id) (ordering_then (slice_cmp nat_cmp (name i) other.name) (nat_cmp one.start (start i)))))
    ∙ (λ i. is_lt (ordering_then (same_cmp other.id i) (ordering_then (same_names other.name i) (nat_cmp one.start 0))))
    ∙ not_first one.start
  where
    not_first : (n : ℕ) → is_lt (nat_cmp n 0) ≡ false
    not_first n = grind arith

module _ (attributes : List Attribute) (order : IsInOrder attribute_before attributes) (values : All (IsValue attributes) attributes) (id : ℕ) (name : List ℕ) where
  -- it isn't a further one
  pub first_is_own : (first : Attribute) → find (is_record_of id name) attributes ≡ Some first → is_more first.value ≡ false
  first_is_own first found = let it = found_some (is_record_of id name) attributes first found in of_value first.value refl it.1 (each_of (IsValue attributes) attributes values first it.0)
    where
      of_fork : (fork : Attribute) (value : AttrRecord) → has_fork value ≡ true → IsValueIn attributes fork value → (fork.start ≡ 0) × (is_more value ≡ false)
      of_fork fork (attribute.Inline v) has is = absurd (true≢false (sym has))
      of_fork fork (attribute.Fork f) has is = (is.0, refl)
      of_fork fork (attribute.More e) has is = absurd (true≢false (sym has))

      of_value : (value : AttrRecord) → first.value ≡ value → is_record_of id name first ≡ true → IsValueIn attributes first value → is_more value ≡ false
      of_value (attribute.Inline v) same here is = refl
      of_value (attribute.Fork f) same here is = refl
      of_value (attribute.More e) same here is =
          let fork : Attribute = is.0 in
          let key = and_parts (fork.id == first.id) (bytes_eq fork.name first.name) is.2 in
          let mine = and_parts (first.id == id) (bytes_eq first.name name) here in
          let id_same : fork.id ≡ first.id = eqb-true fork.id first.id key.0 in
          let name_same : fork.name ≡ first.name = (bytes_eq-Decides fork.name first.name).0 key.1 in
          let starts = of_fork fork fork.value is.3 (each_of (IsValue attributes) attributes values fork is.1) in
          let named : is_record_of id name fork ≡ true = (λ i. (id_same i == id) && bytes_eq (name_same i) name) ∙ here in
          elim (found_before attribute_before (is_record_of id name) attributes first order found fork is.1 named) [
            | inl it ↦ absurd (true≢false (sym (ap is_more same) ∙ ap (λ (a : Attribute). is_more a.value) (sym it) ∙ starts.1))
            | inr before ↦ absurd (true≢false (sym before ∙ not_before_start first fork (sym id_same) (sym name_same) starts.0))
          ]

-- ---- with its value in its record

-- the attribute of a record that isn't a further one, with its value in its record
abbrev pub in_record : BytesOf → List Attribute → Attribute → AttrRecord → Attribute
in_record bytes_of attributes a (attribute.Inline v) = a
in_record bytes_of attributes a (attribute.Fork fork) = record a { value = attribute.Inline (bytes_of.value fork.logical_size (value_extents attributes a.id a.name)) }
in_record bytes_of attributes a (attribute.More e) = a

module _ (bytes_of : BytesOf) (attributes : List Attribute) where
  abbrev piece : Attribute → List Attribute
  piece a = with_value bytes_of attributes a a.value

  module _ (id : ℕ) (name : List ℕ) where
    abbrev test : Attribute → Bool
    test a = is_record_of id name a

    found_in : (items : List Attribute) → ((first : Attribute) → find test items ≡ Some first → is_more first.value ≡ false)
        → find test (flat_map piece items) ≡ option_map (λ a. in_record bytes_of attributes a a.value) (find test items)
    found_in [] own = refl
    found_in (a ∷ items) own = by_test (test a) refl own (found_in items)
      where
        passed : (value : AttrRecord) → test a ≡ false → find test (with_value bytes_of attributes a value ++ flat_map piece items) ≡ find test (flat_map piece items)
        passed (attribute.Inline v) is = ap (λ b. if b then Some a else find test (flat_map piece items)) is
        passed (attribute.Fork fork) is = ap (λ b. if b then Some (record a { value = attribute.Inline (bytes_of.value fork.logical_size (value_extents attributes a.id a.name)) }) else find test (flat_map piece items)) is
        passed (attribute.More e) is = refl

        stopped : (value : AttrRecord) → is_more value ≡ false → test a ≡ true → find test (with_value bytes_of attributes a value ++ flat_map piece items) ≡ Some (in_record bytes_of attributes a value)
        stopped (attribute.Inline v) first is = ap (λ b. if b then Some a else find test (flat_map piece items)) is
        stopped (attribute.Fork fork) first is = ap (λ b. if b then Some (record a { value = attribute.Inline (bytes_of.value fork.logical_size (value_extents attributes a.id a.name)) }) else find test (flat_map piece items)) is
        stopped (attribute.More e) first is = absurd (true≢false first)

        by_test : (b : Bool) → test a ≡ b → ((first : Attribute) → (if test a then Some a else find test items) ≡ Some first → is_more first.value ≡ false)
            → (((first : Attribute) → find test items ≡ Some first → is_more first.value ≡ false) → find test (flat_map piece items) ≡ option_map (λ x. in_record bytes_of attributes x x.value) (find test items))
            → find test (with_value bytes_of attributes a a.value ++ flat_map piece items) ≡ option_map (λ x. in_record bytes_of attributes x x.value) (if test a then Some a else find test items)
        by_test true is each later =
            stopped a.value (each a (ap (λ b. if b then Some a else find test items) is)) is
            ∙ ap (λ b. option_map (λ x. in_record bytes_of attributes x x.value) (if b then Some a else find test items)) (sym is)
        by_test false is each later =
            passed a.value is
            ∙ later (λ first found. each first (ap (λ b. if b then Some a else find test items) is ∙ found))
            ∙ ap (λ b. option_map (λ x. in_record bytes_of attributes x x.value) (if b then Some a else find test items)) (sym is)

    -- the attribute of a name is that of the first of its records
    pub valued_found : IsInOrder attribute_before attributes → All (IsValue attributes) attributes
        → find (is_record_of id name) (valued bytes_of attributes) ≡ option_map (λ a. in_record bytes_of attributes a a.value) (find (is_record_of id name) attributes)
    unfolding valued
    valued_found order values = found_in attributes (first_is_own attributes order values id name)

  abbrev names_of : List Attribute → List (List ℕ)
  names_of l = map (λ (x : Attribute). x.name) l

  -- those of one CNID that aren't further ones
  abbrev own_of : ℕ → List Attribute → List Attribute
  own_of id items = kept (λ x. (x.id == id) && not (is_more x.value)) items

  -- the names of a folder or file are those of its records that aren't further ones
  names_in : (id : ℕ) (items : List Attribute) → map (λ (a : Attribute). a.name) (kept (λ a. a.id == id) (flat_map piece items)) ≡ map (λ (a : Attribute). a.name) (kept (λ a. (a.id == id) && not (is_more a.value)) items)
  names_in id [] = refl
  names_in id (a ∷ items) = of_value a.value refl (a.id == id) refl (names_in id items)
    where
      of_value : (value : AttrRecord) → a.value ≡ value → (b : Bool) → (a.id == id) ≡ b
          → names_of (kept (λ x. x.id == id) (flat_map piece items)) ≡ names_of (own_of id items)
          → names_of (kept (λ x. x.id == id) (with_value bytes_of attributes a value ++ flat_map piece items)) ≡ names_of ((if (a.id == id) && not (is_more a.value) then a ∷ [] else []) ++ own_of id items)
      of_value (attribute.Inline v) same true is rest =
          ap (λ c. names_of ((if c then a ∷ [] else []) ++ kept (λ x. x.id == id) (flat_map piece items))) is ∙ ap (λ l. a.name ∷ l) rest
          ∙ sym ((λ i. names_of ((if is i && not (is_more (same i)) then a ∷ [] else []) ++ own_of id items)))
      of_value (attribute.Inline v) same false is rest =
          ap (λ c. names_of ((if c then a ∷ [] else []) ++ kept (λ x. x.id == id) (flat_map piece items))) is ∙ rest
          ∙ sym ((λ i. names_of ((if is i && not (is_more (same i)) then a ∷ [] else []) ++ own_of id items)))
      of_value (attribute.Fork fork) same true is rest =
          ap (λ c. names_of ((if c then record a { value = attribute.Inline (bytes_of.value fork.logical_size (value_extents attributes a.id a.name)) } ∷ [] else []) ++ kept (λ x. x.id == id) (flat_map piece items))) is ∙ ap (λ l. a.name ∷ l) rest
          ∙ sym ((λ i. names_of ((if is i && not (is_more (same i)) then a ∷ [] else []) ++ own_of id items)))
      of_value (attribute.Fork fork) same false is rest =
          ap (λ c. names_of ((if c then record a { value = attribute.Inline (bytes_of.value fork.logical_size (value_extents attributes a.id a.name)) } ∷ [] else []) ++ kept (λ x. x.id == id) (flat_map piece items))) is ∙ rest
          ∙ sym ((λ i. names_of ((if is i && not (is_more (same i)) then a ∷ [] else []) ++ own_of id items)))
      of_value (attribute.More e) same true is rest = rest ∙ sym ((λ i. names_of ((if is i && not (is_more (same i)) then a ∷ [] else []) ++ own_of id items)))
      of_value (attribute.More e) same false is rest = rest ∙ sym ((λ i. names_of ((if is i && not (is_more (same i)) then a ∷ [] else []) ++ own_of id items)))

  pub valued_names : (id : ℕ) → map (λ (a : Attribute). a.name) (kept (λ a. a.id == id) (valued bytes_of attributes)) ≡ map (λ (a : Attribute). a.name) (kept (λ a. (a.id == id) && not (is_more a.value)) attributes)
  unfolding valued
  valued_names id = names_in id attributes
