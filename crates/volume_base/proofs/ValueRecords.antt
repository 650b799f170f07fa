-- How many records the value of an attribute has, by its extents; and what the values of one owner have in all.
use Rattle.std.proofs.Common.{◌≡◌, ◌⊎◌, ◌<◌, ◌≤◌, ℕ, ◌+◌, ◌-◌, ◌*◌, ◌==◌, Bool, true, false, not, List, [], ◌∷◌, ◌++◌, length, map, take, drop, inl, inr, refl, sym, ◌∙◌, ap, subst, arith}
use Rattle.std.specs.Prelude.{◌&&◌, ◌||◌, All, Contains, sum, if◌then◌else◌}
use Rattle.std.specs.List.{AllByRecursion, flat_map, range_with_len}
use Rattle.std.specs.Str.{bytes_eq}
use Rattle.std.proofs.lemmas.Bool.{and_parts, eqb-true, ne_eqb, true≢false}
use Rattle.std.proofs.lemmas.List.{length-append, length-map}
use Rattle.std.proofs.lemmas.Grind.{flat_map-append}
use Rattle.std.proofs.lemmas.List.Sums.{sum_by-cons}
use Rattle.std.proofs.lemmas.Slice.Eq.{bytes_eq-Decides}
use Rattle.hx_bytes.specs.Fork.{extents_at, fork_at}
use Rattle.hx_bytes.specs.Field.{big_at}
use Rattle.hx_bytes.specs.declared.extents.Extent.{Extent}
use Rattle.attributes.specs.Owned.{count_of, extents_owned, is_of, is_own, names_of}
use Rattle.attributes.specs.Values.{AreValued, extents_at as extents_of_value, records_at}
use Rattle.btree_node.specs.Levels.{Pair}
use Rattle.cat_records.specs.Attributes.{is_attr}
use Rattle.cat_records.specs.declared.attribute.AttrRecord.{AttrRecord}
use Rattle.cat_records.specs.declared.attribute.AttrRecord.TheVariants as attribute
use Rattle.fork_map.specs.Blocks.{blocks_of}
use Rattle.hfs_model.specs.Sorted.{kept, IsInOrder}
use Rattle.hfs_volume.specs.Changes.{AreSortedAttributes, attribute_before, is_attribute_of}
use Rattle.hfs_volume.specs.Cost.{overflow_records}
use Rattle.hfs_volume.specs.Forks.{has_extents, in_use, is_full}
use Rattle.hfs_volume.specs.Laws.{one_if}
use Rattle.hfs_volume.specs.Records.{Attribute, attribute_of, is_inline}
use Rattle.hfs_volume.specs.Values.{GoOnIn, IsValue, IsValueIn, extents_in, blocks_of_values, further_of, has_fork, is_more, is_record_of, used_extents, value_extents}
use Rattle.hfs_volume.proofs.Counting.{length_kept}
use Rattle.hfs_volume.proofs.Members.{at_front, behind, each_of, first_or_later, kept_cases, kept_stands, map_cases, map_stands}
use Rattle.hfs_volume.proofs.Valued.{kept_mapped}
use Rattle.hfs_volume.proofs.ValueTrades.{kept_both}
use Rattle.volume_base.proofs.FoundBefore.{not_before_start}

-- ---- records and their extents

-- each record that isn't a whole value has eight extents
abbrev pub IsEight : Attribute → Type 0
IsEight a = is_inline a.value ≡ false → length (extents_in a.value) ≡ 8

eight_at : (bytes : List ℕ) (at : ℕ) → length (extents_at bytes at).extents ≡ 8
unfolding extents_at
eight_at bytes at = refl

pub attribute_eight : (pair : Pair) → IsEight (attribute_of pair)
unfolding attribute_of
attribute_eight pair = by (is_attr pair.1) (big_at 4 pair.1 0 == 0x10) (big_at 4 pair.1 0 == 0x20)
  where
    of : (value : AttrRecord) → Type 0
    of value = is_inline value ≡ false → length (extents_in value) ≡ 8

    by : (a b c : Bool) → of (if a then (if b then attribute.Inline (take (big_at 4 pair.1 12) (drop 16 pair.1)) else if c then attribute.Fork (fork_at pair.1 8) else attribute.More (extents_at pair.1 8)) else attribute.Inline [])
    by false b c other = absurd (true≢false other)
    by true true c other = absurd (true≢false other)
    by true false true other = eight_at pair.1 24
    by true false false other = eight_at pair.1 8

some_used : (extents : List Extent) → has_extents extents ≡ true → 0 < length (in_use extents)
some_used [] some = absurd (true≢false (sym some))
some_used (first ∷ rest) some = by_count (first.count == 0) (some_used rest) some
  where
    by_count : (b : Bool) → (has_extents rest ≡ true → 0 < length (in_use rest)) → (not b || has_extents rest) ≡ true → 0 < length ((if not b then first ∷ [] else []) ++ in_use rest)
    by_count false later is = omega arith
    by_count true later is = later is

full_used : (xs : List Extent) → is_full xs ≡ true → in_use xs ≡ xs
full_used [] full = refl
full_used (x ∷ xs) full =
    let parts = and_parts (not (x.count == 0)) (is_full xs) full in
    λ i. (if parts.0 i then x ∷ [] else []) ++ full_used xs parts.1 i

-- the extents in use of these records
abbrev used_by : List Attribute → List Extent
used_by records = flat_map used_extents records

used_cons : (a : Attribute) (rest : List Attribute) → length (used_by (a ∷ rest)) ≡ length (used_extents a) + length (used_by rest)
used_cons a rest = length-append (used_extents a) (used_by rest)

-- all but the last of further records are full
further_long : (place : ℕ) (full : Bool) (records : List Attribute) → ((a : Attribute) → Contains records a → length (extents_in a.value) ≡ 8) → GoOnIn place full records
    → 8 * length records ≤ 7 + length (used_by records)
further_long place full [] eight go = omega arith
further_long place full (one ∷ []) eight go = let some = some_used (extents_in one.value) go.3 in omega (arith, some, used_cons one [])
further_long place full (one ∷ next ∷ more) eight go =
    let rest = further_long (place + length (blocks_of (extents_in one.value))) (is_full (extents_in one.value)) (next ∷ more) (λ a stands. eight a (behind one a (next ∷ more) stands)) go.2 in
    let here = full_used (extents_in one.value) go.2.1 in
    omega (arith, rest, eight one (at_front one (next ∷ more)), ap length here, used_cons one (next ∷ more))

-- one of the records has no more extents than all
used_among : (records : List Attribute) (a : Attribute) → Contains records a → length (used_extents a) ≤ length (used_by records)
used_among [] a stands = absurd (omega (arith, stands.1))
used_among (one ∷ rest) a stands = elim (first_or_later one a rest stands) [
  | inl same ↦ omega (arith, ap (λ (x : Attribute). length (used_extents x)) same, used_cons one rest)
  | inr later ↦ omega (arith, used_among rest a later, used_cons one rest)
]

-- a record has eight extents at most
in_use_few : (extents : List Extent) → length (in_use extents) ≤ length extents
in_use_few [] = omega arith
in_use_few (e ∷ rest) = by (not (e.count == 0)) (in_use_few rest)
  where
    by : (b : Bool) → length (in_use rest) ≤ length rest → length ((if b then e ∷ [] else []) ++ in_use rest) ≤ length (e ∷ rest)
    by true few = omega (arith, few)
    by false few = omega (arith, few)

used_eight : (a : Attribute) → IsEight a → length (used_extents a) ≤ 8
used_eight a eight = by a.value refl
  where
    other : is_inline a.value ≡ false → length (used_extents a) ≤ 8
    other not_inline = omega (arith, eight not_inline, in_use_few (extents_in a.value))

    by : (value : AttrRecord) → a.value ≡ value → length (used_extents a) ≤ 8
    by (attribute.Inline v) same = omega (arith, ap (λ x. length (in_use (extents_in x))) same)
    by (attribute.Fork f) same = other (ap is_inline same)
    by (attribute.More e) same = other (ap is_inline same)

eights : (records : List Attribute) → ((a : Attribute) → Contains records a → length (used_extents a) ≤ 8) → length (used_by records) ≤ 8 * length records
eights [] few = omega arith
eights (a ∷ rest) few = omega (arith, used_cons a rest, few a (at_front a rest), eights rest (λ x stands. few x (behind a x rest stands)))

-- ---- those that pass a test, and the others

abbrev others : (Attribute → Bool) → List Attribute → List Attribute
others test records = kept (λ a. not (test a)) records

pub split_many : (test : Attribute → Bool) (records : List Attribute) → length records ≡ length (kept test records) + length (others test records)
split_many test [] = refl
split_many test (a ∷ rest) = by_test (test a) (split_many test rest)
  where
    by_test : (b : Bool) → length rest ≡ length (kept test rest) + length (others test rest)
        → length (a ∷ rest) ≡ length ((if b then a ∷ [] else []) ++ kept test rest) + length ((if not b then a ∷ [] else []) ++ others test rest)
    by_test true is = omega (arith, is)
    by_test false is = omega (arith, is)

split_used : (test : Attribute → Bool) (records : List Attribute) → length (used_by records) ≡ length (used_by (kept test records)) + length (used_by (others test records))
split_used test [] = refl
split_used test (a ∷ rest) = by_test (test a) (split_used test rest)
  where
    by_test : (b : Bool) → length (used_by rest) ≡ length (used_by (kept test rest)) + length (used_by (others test rest))
        → length (used_by (a ∷ rest)) ≡ length (used_by ((if b then a ∷ [] else []) ++ kept test rest)) + length (used_by ((if not b then a ∷ [] else []) ++ others test rest))
    by_test true is = omega (arith, is, used_cons a rest, used_cons a (kept test rest))
    by_test false is = omega (arith, is, used_cons a rest, used_cons a (others test rest))

pub each_in : {X : Type 0} (P : X → Type 0) (xs : List X) → AllByRecursion P xs → (x : X) → Contains xs x → P x
each_in P [] all x stands = absurd (omega (arith, stands.1))
each_in P (y ∷ ys) all x stands = elim (first_or_later y x ys stands) [
  | inl same ↦ subst P (sym same) all.0
  | inr later ↦ each_in P ys all.1 x later
]

all_by : {X : Type 0} (P : X → Type 0) (xs : List X) → ((x : X) → Contains xs x → P x) → AllByRecursion P xs
all_by P [] each = tt
all_by P (x ∷ xs) each = (each x (at_front x xs), all_by P xs (λ y stands. each y (behind x y xs stands)))

pub kept_sorted : (test : Attribute → Bool) (records : List Attribute) → IsInOrder attribute_before records → IsInOrder attribute_before (kept test records)
kept_sorted test [] order = tt
kept_sorted test (x ∷ xs) order = by (kept_sorted test xs order.1) (test x)
  where
    by : IsInOrder attribute_before (kept test xs) → (b : Bool) → IsInOrder attribute_before ((if b then x ∷ [] else []) ++ kept test xs)
    by rest true = (all_by (λ later. attribute_before x later ≡ true) (kept test xs) (λ y stands. each_in (λ later. attribute_before x later ≡ true) xs order.0 y (kept_cases test xs y stands).0), rest)
    by rest false = rest

-- of one name and one place there is one record at most
at_most_one : (id : ℕ) (name : List ℕ) (records : List Attribute) → IsInOrder attribute_before records → ((a : Attribute) → Contains records a → (a.id ≡ id) × (a.name ≡ name) × (a.start ≡ 0)) → length records ≤ 1
at_most_one id name [] order each = omega arith
at_most_one id name (x ∷ []) order each = omega arith
at_most_one id name (x ∷ y ∷ rest) order each =
    let one = each x (at_front x (y ∷ rest)) in
    let two = each y (behind x y (y ∷ rest) (at_front y rest)) in
    absurd (true≢false (sym order.0.0 ∙ not_before_start x y (one.0 ∙ sym two.0) (one.1 ∙ sym two.1) two.2))

-- ---- the value of one name

abbrev pub AreEight : List Attribute → Type 0
AreEight records = (a : Attribute) → Contains records a → IsEight a

more_is : (value : AttrRecord) → is_more value ≡ true → is_inline value ≡ false
more_is (attribute.Inline v) is = absurd (true≢false (sym is))
more_is (attribute.Fork f) is = absurd (true≢false (sym is))
more_is (attribute.More e) is = refl

fork_own : (value : AttrRecord) → has_fork value ≡ true → (is_more value ≡ false) × (is_inline value ≡ false)
fork_own (attribute.Inline v) is = absurd (true≢false (sym is))
fork_own (attribute.Fork f) is = (refl, refl)
fork_own (attribute.More e) is = absurd (true≢false (sym is))

module _ (attributes : List Attribute) (order : IsInOrder attribute_before attributes) (values : All (IsValue attributes) attributes) (eight : AreEight attributes) where
  pub start_of : (a : Attribute) → Contains attributes a → is_more a.value ≡ false → a.start ≡ 0
  start_of a stands own = by a.value refl own (each_of (IsValue attributes) attributes values a stands)
    where
      by : (value : AttrRecord) → a.value ≡ value → is_more value ≡ false → IsValueIn attributes a value → a.start ≡ 0
      by (attribute.Inline v) same own it = it
      by (attribute.Fork f) same own it = it.0
      by (attribute.More e) same own it = absurd (true≢false own)

  module _ (id : ℕ) (name : List ℕ) where
    abbrev all : List Attribute
    all = kept (is_record_of id name) attributes

    abbrev more : List Attribute
    more = kept (λ a. is_more a.value) all

    abbrev own : List Attribute
    own = others (λ a. is_more a.value) all

    further_is : further_of attributes id name ≡ more
    further_is = kept_both (is_record_of id name) (λ a. is_more a.value) attributes

    own_one : length own ≤ 1
    own_one = at_most_one id name own (kept_sorted (λ a. not (is_more a.value)) all (kept_sorted (is_record_of id name) attributes order)) each
      where
        not_so : (b : Bool) → not b ≡ true → b ≡ false
        not_so true is = absurd (true≢false (sym is))
        not_so false is = refl

        each : (a : Attribute) → Contains own a → (a.id ≡ id) × (a.name ≡ name) × (a.start ≡ 0)
        each a stands =
            let first = kept_cases (λ (x : Attribute). not (is_more x.value)) all a stands in
            let second = kept_cases (is_record_of id name) attributes a first.0 in
            let key = and_parts (a.id == id) (bytes_eq a.name name) second.1 in
            (eqb-true a.id id key.0, (bytes_eq-Decides a.name name).0 key.1, start_of a second.0 (not_so (is_more a.value) first.1))

    more_eight : (a : Attribute) → Contains more a → length (extents_in a.value) ≡ 8
    more_eight a stands =
        let first = kept_cases (λ (x : Attribute). is_more x.value) all a stands in
        eight a (kept_cases (is_record_of id name) attributes a first.0).0 (more_is a.value first.1)

    -- where there are further records, they go on behind a full one
    more_long : 8 * length more + one_if (not (length more == 0)) ≤ length (value_extents attributes id name)
    more_long = by more refl
      where
        goal : List Attribute → Type 0
        goal records = 8 * length records + one_if (not (length records == 0)) ≤ length (value_extents attributes id name)

        behind_first : (x : Attribute) (rest : List Attribute) → more ≡ x ∷ rest → goal (x ∷ rest)
        behind_first x rest is =
            let there = kept_cases (λ (y : Attribute). is_more y.value) all x (subst (λ l. Contains l x) (sym is) (at_front x rest)) in
            let among = kept_cases (is_record_of id name) attributes x there.0 in
            let key = and_parts (x.id == id) (bytes_eq x.name name) among.1 in
            of_value x.value refl there.1 (each_of (IsValue attributes) attributes values x among.0) (eqb-true x.id id key.0) ((bytes_eq-Decides x.name name).0 key.1)
          where
            of_fork : (fork : Attribute) → Contains attributes fork → is_record_of id name fork ≡ true → (value : AttrRecord) → fork.value ≡ value → has_fork value ≡ true → IsValueIn attributes fork value → (fork.id ≡ id) → (fork.name ≡ name) → goal (x ∷ rest)
            of_fork fork stands here (attribute.Inline v) same has it id_is name_is = absurd (true≢false (sym has))
            of_fork fork stands here (attribute.More e) same has it id_is name_is = absurd (true≢false (sym has))
            of_fork fork stands here (attribute.Fork f) same has it id_is name_is =
                let go = subst (GoOnIn (length (blocks_of f.extents.extents)) (is_full f.extents.extents)) ((λ i. further_of attributes (id_is i) (name_is i)) ∙ further_is ∙ is) it.1 in
                let long = further_long (length (blocks_of f.extents.extents)) (is_full f.extents.extents) (x ∷ rest) (λ a inside. more_eight a (subst (λ l. Contains l a) (sym is) inside)) go in
                let own_stands = kept_stands (λ (a : Attribute). not (is_more a.value)) all fork (kept_stands (is_record_of id name) attributes fork stands here) (ap (λ v. not (is_more v)) same) in
                let first_long = used_among own fork own_stands in
                let full : length (used_extents fork) ≡ 8 = ap (λ v. length (in_use (extents_in v))) same ∙ ap length (full_used f.extents.extents go.1) ∙ ap (λ v. length (extents_in v)) (sym same) ∙ eight fork stands (ap is_inline same) in
                let some : one_if (not (length (x ∷ rest) == 0)) ≡ 1 = ap (λ b. one_if (not b)) (ne_eqb (length (x ∷ rest)) 0 (λ none. absurd (omega (arith, none)))) in
                omega (arith, some, long, first_long, full, split_used (λ a. is_more a.value) all, ap (λ l. length (used_by l)) is)

            of_value : (value : AttrRecord) → x.value ≡ value → is_more x.value ≡ true → IsValueIn attributes x value → x.id ≡ id → x.name ≡ name → goal (x ∷ rest)
            of_value (attribute.Inline v) same is_it it id_is name_is = absurd (true≢false (sym is_it ∙ ap is_more same))
            of_value (attribute.Fork f) same is_it it id_is name_is = absurd (true≢false (sym is_it ∙ ap is_more same))
            of_value (attribute.More e) same is_it it id_is name_is =
                let fork : Attribute = it.0 in
                let key = and_parts (fork.id == x.id) (bytes_eq fork.name x.name) it.2 in
                of_fork fork it.1 ((λ i. (fork.id == sym id_is i) && bytes_eq fork.name (sym name_is i)) ∙ it.2) fork.value refl it.3 (each_of (IsValue attributes) attributes values fork it.1)
                (eqb-true fork.id x.id key.0 ∙ id_is) ((bytes_eq-Decides fork.name x.name).0 key.1 ∙ name_is)

        by : (records : List Attribute) → more ≡ records → goal records
        by [] is = omega arith
        by (x ∷ rest) is = behind_first x rest is

    -- its further records are as many as its extents want
    pub further_few : length (further_of attributes id name) ≤ overflow_records (length (value_extents attributes id name))
    further_few = omega (arith, ap length further_is, by (length more) more_long)
      where
        by : (n : ℕ) → 8 * n + one_if (not (n == 0)) ≤ length (value_extents attributes id name) → n ≤ overflow_records (length (value_extents attributes id name))
        by n long = grind (arith, long)

    -- and as few as these fill
    pub further_most : overflow_records (length (value_extents attributes id name)) ≤ length (further_of attributes id name)
    further_most =
        let most = eights all (λ a stands. used_eight a (eight a (kept_cases (is_record_of id name) attributes a stands).0)) in
        by (length (value_extents attributes id name)) (length (further_of attributes id name)) (omega (arith, most, split_many (λ a. is_more a.value) all, own_one, ap length further_is))
      where
        by : (n m : ℕ) → n ≤ 8 * (1 + m) → overflow_records n ≤ m
        by n m few = grind (arith, few)

    pub records_few : length (kept (is_record_of id name) attributes) ≤ 1 + overflow_records (length (value_extents attributes id name))
    records_few = omega (arith, split_many (λ a. is_more a.value) all, own_one, ap length further_is, further_few)

-- ---- what the values of one owner have

-- the sum over the records that pass a test
abbrev pub sum_in : (Attribute → Bool) → (Attribute → ℕ) → List Attribute → ℕ
sum_in test has [] = 0
sum_in test has (a ∷ rest) = (if test a then has a else 0) + sum_in test has rest

pub sum_cons : {X : Type 0} (f : X → ℕ) (x : X) (xs : List X) → sum (map f (x ∷ xs)) ≡ f x + sum (map f xs)
sum_cons f x xs = sum_by-cons (λ n. n) (f x) (map f xs)

pub sum_add : {X : Type 0} (f g : X → ℕ) (xs : List X) → sum (map (λ x. f x + g x) xs) ≡ sum (map f xs) + sum (map g xs)
sum_add f g [] = refl
sum_add f g (x ∷ xs) = omega (arith, sum_cons (λ y. f y + g y) x xs, sum_cons f x xs, sum_cons g x xs, sum_add f g xs)

pub sum_mono : {X : Type 0} (f g : X → ℕ) (xs : List X) → ((x : X) → f x ≤ g x) → sum (map f xs) ≤ sum (map g xs)
sum_mono f g [] less = omega arith
sum_mono f g (x ∷ xs) less = omega (arith, sum_cons f x xs, sum_cons g x xs, less x, sum_mono f g xs less)

sum_has : {X : Type 0} (f : X → ℕ) (xs : List X) (x : X) → Contains xs x → f x ≤ sum (map f xs)
sum_has f [] x stands = absurd (omega (arith, stands.1))
sum_has f (y ∷ ys) x stands = elim (first_or_later y x ys stands) [
  | inl same ↦ omega (arith, ap f same, sum_cons f y ys)
  | inr later ↦ omega (arith, sum_has f ys x later, sum_cons f y ys)
]

module _ (id : ℕ) (names : List (List ℕ)) (has : Attribute → ℕ) where
  abbrev of_name : Attribute → List ℕ → ℕ
  of_name a name = if is_record_of id name a then has a else 0

  named_here : (a : Attribute) → (a.id == id) ≡ true → is_record_of id a.name a ≡ true
  named_here a mine = (λ i. mine i && bytes_eq a.name a.name) ∙ (bytes_eq-Decides a.name a.name).1 refl

  -- what each record has is counted where its name stands
  pub counted_by_name : (records : List Attribute) → ((a : Attribute) → Contains records a → (a.id == id) ≡ true → Contains names a.name)
      → sum_in (λ a. a.id == id) has records ≤ sum (map (λ name. sum_in (is_record_of id name) has records) names)
  counted_by_name [] each = omega arith
  counted_by_name (a ∷ rest) each = by (counted_by_name rest (λ x stands. each x (behind a x rest stands))) (a.id == id) refl
    where
      by : sum_in (λ x. x.id == id) has rest ≤ sum (map (λ name. sum_in (is_record_of id name) has rest) names) → (b : Bool) → (a.id == id) ≡ b → (if b then has a else 0) + sum_in (λ x. x.id == id) has rest ≤ sum (map (λ name. of_name a name + sum_in (is_record_of id name) has rest) names)
      by later false is = omega (arith, later, sum_add (of_name a) (λ name. sum_in (is_record_of id name) has rest) names)
      by later true is =
          let here = sum_has (of_name a) names a.name (each a (at_front a rest) is) in
          omega (arith, later, sum_add (of_name a) (λ name. sum_in (is_record_of id name) has rest) names, here, ap (λ c. if c then has a else 0) (named_here a is))

-- the sum of what those have that pass a test, as a number of extents and of records
pub sum_blocks : (test : Attribute → Bool) (records : List Attribute) → sum_in test (λ a. length (blocks_of (used_extents a))) records ≡ length (blocks_of (used_by (kept test records)))
sum_blocks test [] = refl
sum_blocks test (a ∷ rest) = by (test a) (sum_blocks test rest)
  where
    blocks_append : (xs ys : List Extent) → length (blocks_of (xs ++ ys)) ≡ length (blocks_of xs) + length (blocks_of ys)
    blocks_append xs ys = ap length (flat_map-append (λ (extent : Extent). range_with_len extent.start extent.count) xs ys) ∙ length-append (blocks_of xs) (blocks_of ys)

    by : (b : Bool) → sum_in test (λ x. length (blocks_of (used_extents x))) rest ≡ length (blocks_of (used_by (kept test rest)))
        → (if b then length (blocks_of (used_extents a)) else 0) + sum_in test (λ x. length (blocks_of (used_extents x))) rest ≡ length (blocks_of (used_by ((if b then a ∷ [] else []) ++ kept test rest)))
    by true is = omega (arith, is, blocks_append (used_extents a) (used_by (kept test rest)))
    by false is = omega (arith, is)

pub sum_more : (test : Attribute → Bool) (records : List Attribute) → sum_in test (λ a. one_if (is_more a.value)) records ≡ length (kept (λ a. test a && is_more a.value) records)
sum_more test [] = refl
sum_more test (a ∷ rest) = by (test a) (is_more a.value) (sum_more test rest)
  where
    by : (b c : Bool) → sum_in test (λ x. one_if (is_more x.value)) rest ≡ length (kept (λ x. test x && is_more x.value) rest)
        → (if b then one_if c else 0) + sum_in test (λ x. one_if (is_more x.value)) rest ≡ length ((if b && c then a ∷ [] else []) ++ kept (λ x. test x && is_more x.value) rest)
    by true true is = omega (arith, is)
    by true false is = omega (arith, is)
    by false c is = omega (arith, is)

-- ---- over the pairs of the attributes file

pub counted : (id : ℕ) (pairs : List Pair) → length (kept (λ (a : Attribute). a.id == id) (map attribute_of pairs)) ≡ count_of id pairs
counted id pairs =
    ap (λ l. length l) (sym (kept_mapped attribute_of (λ (a : Attribute). a.id == id) pairs)) ∙ length-map (kept (is_of id) pairs) attribute_of ∙ length_kept (is_of id) pairs

module _ (pairs : List Pair) (sorted : AreSortedAttributes pairs) (valued : AreValued pairs) where
  pub eight_each : AreEight (map attribute_of pairs)
  eight_each a stands = let it = map_cases attribute_of pairs a stands in subst IsEight (sym it.2) (attribute_eight it.0)

  -- an attribute has a record for its first extents, and one for each eight behind them
  pub records_at_few : (id : ℕ) (name : List ℕ) → records_at pairs id name ≤ 1 + overflow_records (length (extents_of_value pairs id name))
  records_at_few id name =
      let many : records_at pairs id name ≡ length (kept (is_record_of id name) (map attribute_of pairs)) =
      sym (length-map (kept (λ pair. is_attribute_of id name (attribute_of pair)) pairs) attribute_of) ∙ ap (λ l. length l) (kept_mapped attribute_of (is_attribute_of id name) pairs) in
      omega (arith, many, records_few (map attribute_of pairs) sorted valued.values eight_each id name)

  module _ (id : ℕ) where
    abbrev mine : List Attribute
    mine = kept (λ (a : Attribute). a.id == id) (map attribute_of pairs)

    -- each record stands under one of the names
    is_named : (a : Attribute) → Contains (map attribute_of pairs) a → (a.id == id) ≡ true → Contains (names_of id pairs) a.name
    is_named a stands here = by a.value refl (each_of (IsValue (map attribute_of pairs)) (map attribute_of pairs) valued.values a stands)
      where
        own : (x : Attribute) → Contains (map attribute_of pairs) x → (x.id == id) ≡ true → is_more x.value ≡ false → Contains (names_of id pairs) x.name
        own x there at_id first =
            map_stands (λ (y : Attribute). y.name) (kept (is_own id) (map attribute_of pairs)) x
            (kept_stands (is_own id) (map attribute_of pairs) x there (λ i. at_id i && not (first i)))

        by : (value : AttrRecord) → a.value ≡ value → IsValueIn (map attribute_of pairs) a value → Contains (names_of id pairs) a.name
        by (attribute.Inline v) same it = own a stands here (ap is_more same)
        by (attribute.Fork f) same it = own a stands here (ap is_more same)
        by (attribute.More e) same it =
            let fork : Attribute = it.0 in
            let key = and_parts (fork.id == a.id) (bytes_eq fork.name a.name) it.2 in
            subst (λ n. Contains (names_of id pairs) n) ((bytes_eq-Decides fork.name a.name).0 key.1)
            (own fork it.1 (ap (λ n. n == id) (eqb-true fork.id a.id key.0) ∙ here) (fork_own fork.value it.3).0)

    -- as many records at most as names, and records for the extents of each
    pub owned_records : count_of id pairs ≤ length (names_of id pairs) + sum (map (λ name. overflow_records (length (extents_of_value pairs id name))) (names_of id pairs))
    owned_records =
        let split = split_many (λ (a : Attribute). is_more a.value) mine in
        let firsts : length (others (λ (a : Attribute). is_more a.value) mine) ≡ length (names_of id pairs) =
        ap (λ l. length l) (sym (kept_both (λ (a : Attribute). a.id == id) (λ a. not (is_more a.value)) (map attribute_of pairs))) ∙ sym (length-map (kept (is_own id) (map attribute_of pairs)) (λ (a : Attribute). a.name)) in
        let further : length (kept (λ (a : Attribute). is_more a.value) mine) ≡ sum_in (λ a. a.id == id) (λ a. one_if (is_more a.value)) (map attribute_of pairs) =
        ap (λ l. length l) (sym (kept_both (λ (a : Attribute). a.id == id) (λ a. is_more a.value) (map attribute_of pairs))) ∙ sym (sum_more (λ a. a.id == id) (map attribute_of pairs)) in
        let named = counted_by_name id (names_of id pairs) (λ a. one_if (is_more a.value)) (map attribute_of pairs) is_named in
        let least = sum_mono (λ name. sum_in (is_record_of id name) (λ a. one_if (is_more a.value)) (map attribute_of pairs)) (λ name. overflow_records (length (extents_of_value pairs id name))) (names_of id pairs)
        (λ name. omega (arith, sum_more (is_record_of id name) (map attribute_of pairs), further_few (map attribute_of pairs) sorted valued.values eight_each id name)) in
        omega (arith, sym (counted id pairs), split, firsts, further, named, least)

    -- as many blocks at most as the values of the names have
    pub owned_blocks : length (blocks_of (extents_owned pairs id)) ≤ sum (map (λ name. length (blocks_of (extents_of_value pairs id name))) (names_of id pairs))
    owned_blocks =
        let all = sum_blocks (λ a. a.id == id) (map attribute_of pairs) in
        let named = counted_by_name id (names_of id pairs) (λ a. length (blocks_of (used_extents a))) (map attribute_of pairs) is_named in
        let least = sum_mono (λ name. sum_in (is_record_of id name) (λ a. length (blocks_of (used_extents a))) (map attribute_of pairs)) (λ name. length (blocks_of (extents_of_value pairs id name))) (names_of id pairs)
        (λ name. omega (arith, sum_blocks (is_record_of id name) (map attribute_of pairs))) in
        omega (arith, all, named, least)

-- ---- blocks

-- the blocks of the values of some records are those of their extents
pub values_joined : (records : List Attribute) → blocks_of_values records ≡ blocks_of (flat_map used_extents records)
unfolding blocks_of_values
values_joined records = joined records
  where
    joined : (some : List Attribute) → flat_map (λ (a : Attribute). blocks_of (used_extents a)) some ≡ blocks_of (flat_map used_extents some)
    joined [] = refl
    joined (a ∷ rest) =
        ap (λ (l : List ℕ). blocks_of (used_extents a) ++ l) (joined rest)
        ∙ sym (flat_map-append (λ (extent : Extent). range_with_len extent.start extent.count) (used_extents a) (flat_map used_extents rest))
