-- The first name of an owner's attributes is that of the first of its records: a further record stands behind the one in which its value begins.
use Rattle.std.proofs.Common.{◌≡◌, ℕ, ◌==◌, Bool, true, false, not, List, [], ◌∷◌, ◌++◌, length, map, inl, inr, refl, sym, ◌∙◌, ap, subst, arith}
use Rattle.std.specs.Prelude.{◌&&◌, ◌<◌, All, Contains, slice_index_or, if◌then◌else◌}
use Rattle.std.specs.List.{AllByRecursion}
use Rattle.std.specs.Str.{bytes_eq}
use Rattle.std.proofs.lemmas.Bool.{and_parts, eq-eqb, eqb-true, true≢false}
use Rattle.std.proofs.lemmas.Slice.Eq.{bytes_eq-Decides}
use Rattle.attributes.specs.Owned.{is_own}
use Rattle.cat_records.specs.declared.attribute.AttrRecord.{AttrRecord}
use Rattle.cat_records.specs.declared.attribute.AttrRecord.TheVariants as attribute
use Rattle.hfs_model.specs.Sorted.{kept, IsInOrder}
use Rattle.hfs_volume.specs.Changes.{attribute_before}
use Rattle.hfs_volume.specs.Records.{Attribute}
use Rattle.hfs_volume.specs.Values.{IsValue, IsValueIn, has_fork, is_more}
use Rattle.hfs_volume.proofs.Members.{at_front, behind, each_of, first_or_later, kept_cases, kept_stands}
use Rattle.volume_base.specs.Orphans.{IsFirstName}
use Rattle.volume_base.proofs.FoundBefore.{not_before_start}

each_later : {X : Type 0} (P : X → Type 0) (xs : List X) → AllByRecursion P xs → (x : X) → Contains xs x → P x
each_later P [] all x stands = absurd (omega (arith, stands.1))
each_later P (y ∷ ys) all x stands = elim (first_or_later y x ys stands) [
  | inl same ↦ subst P (sym same) all.0
  | inr later ↦ each_later P ys all.1 x later
]

-- a record of the same name, in which a value begins
abbrev BeginsIn : List Attribute → Attribute → Type 0
BeginsIn all a = (first : Attribute) × Contains all first × (a.id ≡ first.id) × (a.name ≡ first.name) × (first.start ≡ 0) × (is_more first.value ≡ false)

begins : (value : AttrRecord) → has_fork value ≡ true → is_more value ≡ false
begins (attribute.Inline v) is = refl
begins (attribute.Fork f) is = refl
begins (attribute.More e) is = absurd (true≢false (sym is))

begins_in : (all : List Attribute) → All (IsValue all) all → (a : Attribute) → Contains all a → is_more a.value ≡ true → BeginsIn all a
begins_in all values a stands more = by a.value refl more (each_of (IsValue all) all values a stands)
  where
    starts : (first : Attribute) (value : AttrRecord) → first.value ≡ value → has_fork value ≡ true → IsValueIn all first value → first.start ≡ 0
    starts first (attribute.Inline v) same has it = it
    starts first (attribute.Fork f) same has it = it.0
    starts first (attribute.More e) same has it = absurd (true≢false (sym has))

    by : (value : AttrRecord) → a.value ≡ value → is_more value ≡ true → IsValueIn all a value → BeginsIn all a
    by (attribute.Inline v) same is it = absurd (true≢false (sym is))
    by (attribute.Fork f) same is it = absurd (true≢false (sym is))
    by (attribute.More e) same is it =
        let first : Attribute = it.0 in
        let key = and_parts (first.id == a.id) (bytes_eq first.name a.name) it.2 in
        (first, it.1, sym (eqb-true first.id a.id key.0), sym ((bytes_eq-Decides first.name a.name).0 key.1), starts first first.value refl it.3 (each_of (IsValue all) all values first it.1), begins first.value it.3)

own_of : (id : ℕ) (a : Attribute) → a.id ≡ id → is_more a.value ≡ false → is_own id a ≡ true
own_of id a same own = (λ i. (same i == id) && not (own i)) ∙ ap (λ b. b && true) (eq-eqb id id refl)

abbrev names : List Attribute → List (List ℕ)
names records = map (λ (a : Attribute). a.name) records

module _ (id : ℕ) where
  abbrev its : List Attribute → List Attribute
  its all = kept (λ (a : Attribute). a.id == id) all

  abbrev own : List Attribute → List Attribute
  own all = kept (is_own id) all

  -- each further record of this owner has the one in which its value begins
  abbrev HaveFirsts : List Attribute → Type 0
  HaveFirsts all = (a : Attribute) → Contains all a → a.id ≡ id → is_more a.value ≡ true → BeginsIn all a

  first_own : (all : List Attribute) → IsInOrder attribute_before all → HaveFirsts all → (name : List ℕ) → IsFirstName name (names (own all)) → IsFirstName name (names (its all))
  first_own [] order firsts name first = first
  first_own (x ∷ rest) order firsts name first = by (λ firsts_later. first_own rest order.1 firsts_later name) (x.id == id) (is_more x.value) refl refl first
    where
      later : (x.id == id) ≡ false → HaveFirsts rest
      later other a stands same more =
          let found = firsts a (behind x a rest stands) same more in
          elim (first_or_later x found.0 rest found.1) [
            | inl is ↦ absurd (true≢false (sym (eq-eqb x.id id (ap (λ (y : Attribute). y.id) (sym is) ∙ sym found.2 ∙ same)) ∙ other))
            | inr behind_it ↦ (found.0, behind_it, found.2, found.3, found.4, found.5)
          ]

      by : (HaveFirsts rest → IsFirstName name (names (own rest)) → IsFirstName name (names (its rest))) → (b more : Bool) → (x.id == id) ≡ b → is_more x.value ≡ more → IsFirstName name (names ((if b && not more then x ∷ [] else []) ++ own rest)) → IsFirstName name (names ((if b then x ∷ [] else []) ++ its rest))
      by next false more other kind told = next (later other) told
      by next true false same kind told = (omega arith, told.1)
      by next true true same kind told =
          let found = firsts x (at_front x rest) (eqb-true x.id id same) kind in
          elim (first_or_later x found.0 rest found.1) [
            | inl is ↦ absurd (true≢false (sym kind ∙ ap (λ (y : Attribute). is_more y.value) (sym is) ∙ found.5))
            | inr behind_it ↦ absurd (true≢false (sym (each_later (λ y. attribute_before x y ≡ true) rest order.0 found.0 behind_it) ∙ not_before_start x found.0 found.2 found.3 found.4))
          ]

  none_own : (all : List Attribute) → HaveFirsts all → length (names (own all)) ≡ 0 → length (names (its all)) ≡ 0
  none_own all firsts none = by (its all) refl
    where
      no_more : (records : List Attribute) (a : Attribute) → Contains records a → length (names records) ≡ 0 → ⊥
      no_more [] a stands is = omega (arith, stands.1)
      no_more (x ∷ xs) a stands is = omega (arith, is)

      here : (a : Attribute) → Contains all a → a.id ≡ id → is_more a.value ≡ false → ⊥
      here a stands same kind = no_more (own all) a (kept_stands (is_own id) all a stands (own_of id a same kind)) none

      of : (a : Attribute) → Contains all a → a.id ≡ id → (more : Bool) → is_more a.value ≡ more → ⊥
      of a stands same false kind = here a stands same kind
      of a stands same true kind = let found = firsts a stands same kind in here found.0 found.1 (sym found.2 ∙ same) found.5

      by : (records : List Attribute) → its all ≡ records → length (names records) ≡ 0
      by [] is = refl
      by (x ∷ xs) is =
          let there = kept_cases (λ (a : Attribute). a.id == id) all x (subst (λ (l : List Attribute). Contains l x) (sym is) (at_front x xs)) in
          absurd (of x there.0 (eqb-true x.id id there.1) (is_more x.value) refl)

-- ---- of all records

pub first_of_all : (id : ℕ) (all : List Attribute) → IsInOrder attribute_before all → All (IsValue all) all → (name : List ℕ) → IsFirstName name (names (kept (is_own id) all)) → IsFirstName name (names (kept (λ (a : Attribute). a.id == id) all))
first_of_all id all order values name first = first_own id all order (λ a stands same more. begins_in all values a stands more) name first

pub none_of_all : (id : ℕ) (all : List Attribute) → All (IsValue all) all → length (names (kept (is_own id) all)) ≡ 0 → length (names (kept (λ (a : Attribute). a.id == id) all)) ≡ 0
none_of_all id all values none = none_own id all (λ a stands same more. begins_in all values a stands more) none
