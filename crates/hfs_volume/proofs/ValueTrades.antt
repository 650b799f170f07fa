-- The blocks of values, and the rules of values, after attributes were taken away and after one was set that has blocks of its own.
use Rattle.std.proofs.Common.{◌≡◌, ◌<◌, ◌≤◌, ℕ, ◌+◌, ◌*◌, ◌==◌, ◌-◌, Bool, true, false, List, [], ◌∷◌, ◌++◌, length, map, inl, inr, refl, sym, ◌∙◌, ap, subst, arith}
use Rattle.std.specs.Prelude.{Contains, All, ◌&&◌, not, if◌then◌else◌}
use Rattle.std.specs.Str.{bytes_eq}
use Rattle.std.specs.List.{flat_map, range_with_len}
use Rattle.std.proofs.lemmas.Bool.{eqb-true, not-true, true≢false, and_parts}
use Rattle.std.proofs.lemmas.Slice.Eq.{bytes_eq-Decides}
use Rattle.std.proofs.lemmas.Grind.{flat_map-append}
use Rattle.hx_bytes.specs.declared.extents.Extent.{Extent}
use Rattle.fork_map.specs.Blocks.{blocks_of}
use Rattle.alloc_bitmap.specs.Apart.{times}
use Rattle.alloc_bitmap.proofs.ApartLaws.{times-append}
use Rattle.btree_node.specs.Levels.{Pair}
use Rattle.cat_records.specs.declared.attribute.AttrRecord.{AttrRecord}
use Rattle.cat_records.specs.declared.attribute.AttrRecord.TheVariants as attribute
use Rattle.hfs_model.specs.Sorted.{kept}
use Rattle.hfs_volume.specs.Records.{Attribute, attribute_of}
use Rattle.hfs_volume.specs.Forks.{in_use, is_full}
use Rattle.hfs_volume.specs.Values.{is_record_of, is_more, used_extents, extents_in, value_extents, value_blocks, blocks_of_values, further_of, GoOnIn, IsValue, IsValueIn}
use Rattle.hfs_volume.specs.Blocks.{HasValueSizes, FitsIn}
use Rattle.hfs_volume.specs.Changes.{SetsFork}
use Rattle.hfs_volume.proofs.Members.{all_of, each_of, at_front, behind, first_or_later, kept_cases, kept_stands, map_cases}
use Rattle.hfs_volume.proofs.Reaching.{flat_stands}
use Rattle.hfs_volume.proofs.BlockWants.{in_range}
use Rattle.hfs_volume.proofs.Fitting.{not_same}
use Rattle.hfs_volume.proofs.Seeing.{same_number}
use Rattle.hfs_volume.proofs.Valued.{KeepsWhole, by_id_and_name, extents_left, kept_mapped, kept_within, not_named, sizes_left, value_left}

-- ---- lists that are kept

-- where none that passes is kept, none is left
pub none_kept : {X : Type 0} (test keep : X → Bool) → ((x : X) → test x ≡ true → keep x ≡ false) → (xs : List X) → kept test (kept keep xs) ≡ []
none_kept test keep without [] = refl
none_kept {X} test keep without (x ∷ xs) = by_tests (keep x) (test x) refl refl (none_kept test keep without xs)
  where
    by_tests : (k t : Bool) → keep x ≡ k → test x ≡ t → kept test (kept keep xs) ≡ [] → kept test ((if k then x ∷ [] else []) ++ kept keep xs) ≡ []
    by_tests false t is_k is_t rest = rest
    by_tests true false is_k is_t rest = ap (λ b. (if b then x ∷ [] else []) ++ kept test (kept keep xs)) is_t ∙ rest
    by_tests true true is_k is_t rest = absurd (true≢false (sym is_k ∙ without x is_t))

pub kept_both : {X : Type 0} (p q : X → Bool) (xs : List X) → kept (λ x. p x && q x) xs ≡ kept q (kept p xs)
kept_both p q [] = refl
kept_both {X} p q (x ∷ xs) = by_test (p x) (kept_both p q xs)
  where
    by_test : (b : Bool) → kept (λ y. p y && q y) xs ≡ kept q (kept p xs) → (if b && q x then x ∷ [] else []) ++ kept (λ y. p y && q y) xs ≡ kept q ((if b then x ∷ [] else []) ++ kept p xs)
    by_test true rest = ap (λ l. (if q x then x ∷ [] else []) ++ l) rest
    by_test false rest = rest

pub kept_all : {X : Type 0} (test : X → Bool) (xs : List X) → ((x : X) → Contains xs x → test x ≡ true) → kept test xs ≡ xs
kept_all test [] each = refl
kept_all {X} test (x ∷ xs) each =
    ap (λ b. (if b then x ∷ [] else []) ++ kept test xs) (each x (at_front x xs))
    ∙ ap (λ l. x ∷ l) (kept_all test xs (λ y there. each y (later y there)))
  where
    later : (y : X) → Contains xs y → Contains (x ∷ xs) y
    later y there = behind x y xs there

-- a name is its own
pub itself : (id : ℕ) (name : List ℕ) → ((id == id) && bytes_eq name name) ≡ true
itself id name = (λ i. same_number id i && bytes_eq name name) ∙ (bytes_eq-Decides name name).1 refl

-- ---- the blocks of records

-- the blocks of a record
abbrev own : Attribute → List ℕ
own record_ = blocks_of (used_extents record_)

abbrev own_all : List Attribute → List ℕ
own_all records = flat_map own records

split : (test : Attribute → Bool) (records : List Attribute) (block : ℕ) → times block (own_all records) ≡ times block (own_all (kept (λ a. not (test a)) records)) + times block (own_all (kept test records))
split test [] block = refl
split test (a ∷ rest) block = by_test (test a) (split test rest block)
  where
    by_test : (b : Bool) → times block (own_all rest) ≡ times block (own_all (kept (λ x. not (test x)) rest)) + times block (own_all (kept test rest))
        → times block (own a ++ own_all rest) ≡ times block (own_all ((if not b then a ∷ [] else []) ++ kept (λ x. not (test x)) rest)) + times block (own_all ((if b then a ∷ [] else []) ++ kept test rest))
    by_test true later = omega (arith, later, times-append block (own a) (own_all rest), times-append block (own a) (own_all (kept test rest)))
    by_test false later = omega (arith, later, times-append block (own a) (own_all rest), times-append block (own a) (own_all (kept (λ x. not (test x)) rest)))

-- the blocks of values are those of the records that pass a test and those of the others
pub blocks_split : (test : Attribute → Bool) (records : List Attribute) (block : ℕ)
    → times block (blocks_of_values records) ≡ times block (blocks_of_values (kept (λ a. not (test a)) records)) + times block (blocks_of_values (kept test records))
unfolding blocks_of_values
blocks_split test records block = split test records block

joined : (records : List Attribute) → own_all records ≡ blocks_of (flat_map used_extents records)
joined [] = refl
joined (a ∷ rest) = ap (λ l. own a ++ l) (joined rest) ∙ sym (flat_map-append (λ (e : Extent). range_with_len e.start e.count) (used_extents a) (flat_map used_extents rest))

-- the blocks of the records of a name are those of its value
pub named_blocks : (attributes : List Attribute) (id : ℕ) (name : List ℕ) → blocks_of_values (kept (is_record_of id name) attributes) ≡ value_blocks attributes id name
unfolding blocks_of_values
named_blocks attributes id name = joined (kept (is_record_of id name) attributes)

-- ---- attributes that are taken away

module _ (gone : ℕ → List ℕ → Bool) (old new : List Attribute) (is : new ≡ kept (λ a. not (gone a.id a.name)) old) where
  abbrev goes : Attribute → Bool
  goes a = gone a.id a.name

  module _ (freed : List ℕ) (are : freed ≡ blocks_of_values (kept goes old)) where
    pub taken_balance : (block : ℕ) → times block (blocks_of_values new) + times block freed ≡ times block (blocks_of_values old) + times block []
    taken_balance block = omega (arith, ap (λ l. times block (blocks_of_values l)) is, ap (times block) are, blocks_split goes old block)

    pub taken_were : (block : ℕ) → times block freed ≤ times block (blocks_of_values old)
    taken_were block = omega (arith, ap (times block) are, blocks_split goes old block)

  same_test : (id : ℕ) (name : List ℕ) (a : Attribute) → is_record_of id name a ≡ true → goes a ≡ gone id name
  same_test id name a here = let parts = and_parts (a.id == id) (bytes_eq a.name name) here in λ i. gone (eqb-true a.id id parts.0 i) ((bytes_eq-Decides a.name name).0 parts.1 i)

  pub blocks_gone : (id : ℕ) (name : List ℕ) → gone id name ≡ true → value_blocks new id name ≡ []
  blocks_gone id name it = ap (λ l. value_blocks l id name) is ∙ ap (λ l. blocks_of (flat_map used_extents l)) (none_kept (is_record_of id name) (λ a. not (goes a)) (λ a here. ap not (same_test id name a here ∙ it)) old)

  pub blocks_stay : (id : ℕ) (name : List ℕ) → gone id name ≡ false → value_blocks new id name ≡ value_blocks old id name
  blocks_stay id name it = ap (λ l. value_blocks l id name) is ∙ ap (λ l. blocks_of (flat_map used_extents l)) (kept_within (is_record_of id name) (λ a. not (goes a)) (λ a here. ap not (same_test id name a here ∙ it)) old)

-- ---- rules of records that are left, the other way round

module _ (keep : Attribute → Bool) (whole : KeepsWhole keep) (attributes : List Attribute) (record_ : Attribute) (stays : keep record_ ≡ true) where
  further_back : further_of (kept keep attributes) record_.id record_.name ≡ further_of attributes record_.id record_.name
  further_back = kept_within (λ other. is_record_of record_.id record_.name other && is_more other.value) keep
      (λ other is. whole record_ other (and_parts (is_record_of record_.id record_.name other) (is_more other.value) is).0 ∙ stays) attributes

  value_back : IsValue (kept keep attributes) record_ → IsValue attributes record_
  value_back = of_value record_.value
    where
      of_value : (value : AttrRecord) → IsValueIn (kept keep attributes) record_ value → IsValueIn attributes record_ value
      of_value (attribute.Inline v) is = is
      of_value (attribute.Fork fork) is = (is.0, subst (λ l. GoOnIn (length (blocks_of fork.extents.extents)) (is_full fork.extents.extents) l) further_back is.1)
      of_value (attribute.More extents) is = (is.0, (kept_cases keep attributes is.0 is.1).0, is.2, is.3)

  sizes_back : (total block : ℕ) → HasValueSizes total block (kept keep attributes) record_ → HasValueSizes total block attributes record_
  sizes_back total block has = record { inside = has.inside; fits = of_value record_.value has.fits }
    where
      of_value : (value : AttrRecord) → FitsIn block (kept keep attributes) record_ value → FitsIn block attributes record_ value
      of_value (attribute.Inline v) fits = tt
      of_value (attribute.Fork fork) fits = (sym (ap (λ l. length (blocks_of l)) (extents_left keep whole attributes record_ stays)) ∙ fits.0, fits.1)
      of_value (attribute.More extents) fits = tt

-- ---- an attribute that is set, with blocks of its own

module _ (id : ℕ) (name : List ℕ) (size : ℕ) (extents : List Extent) (old new : List Pair) (sets : SetsFork id name size extents old new) where
  abbrev was : List Attribute
  was = map attribute_of old

  abbrev is : List Attribute
  is = map attribute_of new

  abbrev it : Attribute → Bool
  it a = is_record_of id name a

  abbrev not_it : Attribute → Bool
  not_it a = not (is_record_of id name a)

  abbrev the_first : Attribute
  the_first = record { id = id; name = name; start = 0; value = attribute.Fork sets.fork }

  abbrev the_further : List Attribute
  the_further = map attribute_of sets.further

  pub others_same : kept not_it is ≡ kept not_it was
  others_same = sym (kept_mapped attribute_of not_it new) ∙ ap (map attribute_of) sets.others ∙ kept_mapped attribute_of not_it old

  pub records_are : kept it is ≡ the_first ∷ the_further
  records_are = sym (kept_mapped attribute_of it new) ∙ ap (map attribute_of) sets.records ∙ ap (λ a. a ∷ the_further) sets.is_first

  pub all_more : (a : Attribute) → Contains the_further a → is_more a.value ≡ true
  all_more a there =
      let from = map_cases attribute_of sets.further a there in
      ap (λ (x : Attribute). is_more x.value) from.2 ∙ each_of (λ (p : Pair). is_more (attribute_of p).value ≡ true) sets.further sets.are_further from.0 from.1

  further_is : further_of is id name ≡ the_further
  further_is = kept_both it (λ a. is_more a.value) is ∙ ap (kept (λ a. is_more a.value)) records_are ∙ kept_all (λ a. is_more a.value) the_further all_more

  pub extents_is : value_extents is id name ≡ extents
  extents_is = ap (flat_map used_extents) records_are ∙ sets.extents_are

  pub set_balance : (block : ℕ) → times block (blocks_of_values is) + times block (value_blocks was id name) ≡ times block (blocks_of_values was) + times block (blocks_of extents)
  set_balance block =
      omega (
        arith,
        blocks_split it is block,
        blocks_split it was block,
        ap (λ l. times block (blocks_of_values l)) others_same,
        ap (times block) (named_blocks is id name ∙ ap blocks_of extents_is),
        ap (times block) (named_blocks was id name),
      )

  pub set_were : (block : ℕ) → times block (value_blocks was id name) ≤ times block (blocks_of_values was)
  set_were block = omega (arith, blocks_split it was block, ap (times block) (named_blocks was id name))

  pub set_blocks : value_blocks is id name ≡ blocks_of extents
  set_blocks = ap blocks_of extents_is

  pub set_blocks_stay : (other : ℕ) (other_name : List ℕ) → ((other == id) && bytes_eq other_name name) ≡ false → value_blocks is other other_name ≡ value_blocks was other other_name
  set_blocks_stay other other_name differs =
      sym (blocks_stay (λ i n. (i == id) && bytes_eq n name) is (kept not_it is) refl other other_name differs)
      ∙ ap (λ l. value_blocks l other other_name) others_same
      ∙ blocks_stay (λ i n. (i == id) && bytes_eq n name) was (kept not_it was) refl other other_name differs

  -- ---- each record is one of a value

  first_there : Contains is the_first
  first_there = (kept_cases it is the_first (subst (λ l. Contains l the_first) (sym records_are) (at_front the_first the_further))).0

  of_further : (a : Attribute) → a.id ≡ id → a.name ≡ name → (value : AttrRecord) → is_more value ≡ true → IsValueIn is a value
  of_further a same_id same_name (attribute.Inline v) more = absurd (true≢false (sym more))
  of_further a same_id same_name (attribute.Fork f) more = absurd (true≢false (sym more))
  of_further a same_id same_name (attribute.More e) more = (the_first, first_there, (λ i. (id == same_id i) && bytes_eq name (same_name i)) ∙ itself id name, refl)

  whole : KeepsWhole not_it
  whole = by_id_and_name (not_named id name)

  record_cases : (a : Attribute) → Contains is a → it a ≡ true → Contains (the_first ∷ the_further) a
  record_cases a there here = subst (λ l. Contains l a) records_are (kept_stands it is a there here)

  left_cases : (a : Attribute) → Contains is a → it a ≡ false → Contains was a × (not_it a ≡ true)
  left_cases a there other = kept_cases not_it was a (subst (λ l. Contains l a) others_same (kept_stands not_it is a there (ap not other)))

  pub set_values : All (IsValue was) was → All (IsValue is) is
  set_values values = all_of (IsValue is) is (λ a there. by_test a there (it a) refl)
    where
      by_test : (a : Attribute) → Contains is a → (b : Bool) → it a ≡ b → IsValue is a
      by_test a there true here = elim (first_or_later the_first a the_further (record_cases a there here)) [
        | inl same ↦ subst (IsValue is) (sym same) (refl, subst (λ l. GoOnIn (length (blocks_of sets.fork.extents.extents)) (is_full sets.fork.extents.extents) l) (sym further_is) sets.go_on)
        | inr later ↦
            let parts = and_parts (a.id == id) (bytes_eq a.name name) here in
            of_further a (eqb-true a.id id parts.0) ((bytes_eq-Decides a.name name).0 parts.1) a.value (all_more a later)
      ]
      by_test a there false other =
          let from = left_cases a there other in
          value_back not_it whole is a from.1 (subst (λ l. IsValue l a) (sym others_same) (value_left not_it whole was a from.1 (each_of (IsValue was) was values a from.0)))

  module _ (total block : ℕ) (inside : All (λ n. n < total) (blocks_of extents)) (fits : size ≤ length (blocks_of extents) * block) where
    -- an extent of the value lies in the volume
    extent_inside : (a : Attribute) → Contains (the_first ∷ the_further) a → (e : Extent) → Contains (used_extents a) e → e.start + e.count ≤ total
    extent_inside a there e has =
        let among : Contains extents e = subst (λ l. Contains l e) sets.extents_are (flat_stands used_extents (the_first ∷ the_further) a e there has) in
        let used : (e.count ≡ 0) → ⊥ = λ none. not_same e.count 0 (not-true (e.count == 0) (kept_cases (λ (x : Extent). not (x.count == 0)) (extents_in a.value) e has).1) none in
        let last = each_of (λ n. n < total) (blocks_of extents) inside (e.start + (e.count - 1))
        (flat_stands (λ (x : Extent). range_with_len x.start x.count) extents e (e.start + (e.count - 1)) among (in_range e.start e.count (e.start + (e.count - 1)) (omega arith) (omega (arith, used)))) in
        omega (arith, last, used)

    all_inside : (a : Attribute) → Contains (the_first ∷ the_further) a → All (λ (e : Extent). e.start + e.count ≤ total) (in_use (extents_in a.value))
    all_inside a there = all_of (λ (e : Extent). e.start + e.count ≤ total) (in_use (extents_in a.value)) (extent_inside a there)

    of_more : (a : Attribute) (value : AttrRecord) → is_more value ≡ true → FitsIn block is a value
    of_more a (attribute.Inline v) more = absurd (true≢false (sym more))
    of_more a (attribute.Fork f) more = absurd (true≢false (sym more))
    of_more a (attribute.More e) more = tt

    pub set_sizes : All (HasValueSizes total block was) was → All (HasValueSizes total block is) is
    set_sizes sizes = all_of (HasValueSizes total block is) is (λ a there. by_test a there (it a) refl)
      where
        of_first : HasValueSizes total block is the_first
        of_first = record {
          inside = all_inside the_first (at_front the_first the_further);
          fits = (ap length set_blocks ∙ sym sets.total, subst (λ n. n ≤ sets.fork.total_blocks * block) (sym sets.size_is) (subst (λ n. size ≤ n * block) (sym sets.total) fits));
        }

        by_test : (a : Attribute) → Contains is a → (b : Bool) → it a ≡ b → HasValueSizes total block is a
        by_test a there true here = elim (first_or_later the_first a the_further (record_cases a there here)) [
          | inl same ↦ subst (HasValueSizes total block is) (sym same) of_first
          | inr later ↦ record { inside = all_inside a (record_cases a there here); fits = of_more a a.value (all_more a later) }
        ]
        by_test a there false other =
            let from = left_cases a there other in
            sizes_back not_it whole is a from.1 total block (subst (λ l. HasValueSizes total block l a) (sym others_same) (sizes_left not_it whole was a from.1 total block (each_of (HasValueSizes total block was) was sizes a from.0)))
