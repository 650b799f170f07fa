-- The record under a key: a search of the pairs by the order of keys is the search of the records by their place.
use Rattle.std.proofs.Common.{◌≡◌, ℕ, zero, suc, ◌<◌, Bool, true, false, List, [], ◌∷◌, length, map, refl, sym, ◌∙◌, ap, subst, arith}
use Rattle.std.specs.Prelude.{slice_index_or, T, IsTrue, cond, ◌&&◌, ◌==◌, Option, None, Some}
use Rattle.std.specs.List.{find}
use Rattle.std.specs.Option.{option_map}
use Rattle.std.specs.Cmp.{IsTotalOrder}
use Rattle.std.proofs.lemmas.Bool.{eq-eqb, eqb-true, true≢false, and_from}
use Rattle.std.proofs.lemmas.Slice.Eq.{bytes_eq-Decides}
use Rattle.std.specs.Str.{bytes_eq}
use Rattle.std.specs.declared.cmp.Ordering.{Ordering}
use Rattle.std.specs.declared.cmp.Ordering.TheVariants.{Less, Equal, Greater}
use Rattle.std.specs.Ordering.{nat_cmp, ordering_then, ordering_reverse}
use Rattle.std.specs.Cmp.Lexicographic.{slice_cmp}
use Rattle.std.specs.FinMap.{nat_cmp-IsAntisymmetric, slice_cmp-IsAntisymmetric}
use Rattle.std.proofs.lemmas.List.{get_or-map, length-map}
use Rattle.btree_node.specs.Keys.{IsCatalogKey, catalog_cmp, catalog_parent, catalog_units}
use Rattle.btree_node.specs.Store.{Store}
use Rattle.btree_node.specs.Tree.{IsTree, pairs_of}
use Rattle.btree_node.specs.KeyLaws.{catalog_total}
use Rattle.btree_node.specs.Levels.{Pair, Ascends, pair_of, key_of, entries, level, leaves}
use Rattle.btree_edit.specs.Desk.{HasKey, HoldsPair}
use Rattle.btree_edit.specs.declared.desk.Desk.{Desk}
use Rattle.cat_records.specs.Records.{catalog_of, is_catalog}
use Rattle.hfs_volume.specs.Entries.{AreSpelled}
use Rattle.catalog.specs.Pairs.{IsKeyOf, value_at}
use Rattle.hfs_volume.specs.Records.{Placed, placed_of, placed_in, is_placed_at, record_at}

-- the keys of the pairs rise strictly
abbrev pub AscendByKey : List Pair → Type 0
AscendByKey pairs = (i j : ℕ) → i < j → j < length pairs → catalog_cmp (slice_index_or pairs i ([], [])).0 (slice_index_or pairs j ([], [])).0 ≡ Less

-- the record of a pair stands at the place that a key names
abbrev pub is_under : List ℕ → Pair → Bool
is_under key pair = is_placed_at (catalog_parent key) (catalog_units key) (placed_of pair)

abbrev is_there : {X : Type 0} → Option X → Type 0
is_there None = ⊥
is_there (Some x) = Unit {0}

none_or_some : {X : Type 0} (a : X) → None ≡ Some a → ⊥
none_or_some a same = subst is_there (sym same) tt

then_first : (o p : Ordering) → ordering_then o p ≡ Equal → o ≡ Equal
then_first Less p e = cc
then_first Equal p e = refl
then_first Greater p e = cc

then_second : (o p : Ordering) → ordering_then o p ≡ Equal → p ≡ Equal
then_second Less p e = cc
then_second Equal p e = e
then_second Greater p e = cc

pub first_true : (a b : Bool) → (a && b) ≡ true → a ≡ true
first_true true b is = refl
first_true false b is = is

pub second_true : (a b : Bool) → (a && b) ≡ true → b ≡ true
second_true true b is = is
second_true false b is = absurd (true≢false (sym is))

-- two keys that tie name one place
pub tied_is_under : (pair : Pair) (key : List ℕ) → catalog_cmp pair.0 key ≡ Equal → is_under key pair ≡ true
unfolding placed_of
tied_is_under pair key ties =
    let parents = nat_cmp (catalog_parent pair.0) (catalog_parent key) in
    let names = slice_cmp nat_cmp (catalog_units pair.0) (catalog_units key) in
    and_from _ _ (eq-eqb (catalog_parent pair.0) (catalog_parent key) (nat_cmp-IsAntisymmetric (catalog_parent pair.0) (catalog_parent key) (then_first parents names ties)))
    ((bytes_eq-Decides (catalog_units pair.0) (catalog_units key)).1 (slice_cmp-IsAntisymmetric nat_cmp-IsAntisymmetric (catalog_units pair.0) (catalog_units key) (then_second parents names ties)))

-- keys that name one place tie
pub under_is_tied : (pair : Pair) (key : List ℕ) → is_under key pair ≡ true → catalog_cmp pair.0 key ≡ Equal
unfolding placed_of
under_is_tied pair key under =
    let parents = eqb-true (catalog_parent pair.0) (catalog_parent key) (first_true (catalog_parent pair.0 == catalog_parent key) (bytes_eq (catalog_units pair.0) (catalog_units key)) under) in
    let names = (bytes_eq-Decides (catalog_units pair.0) (catalog_units key)).0 (second_true (catalog_parent pair.0 == catalog_parent key) (bytes_eq (catalog_units pair.0) (catalog_units key)) under) in
    ap (λ n. ordering_then (nat_cmp n (catalog_parent key)) (slice_cmp nat_cmp (catalog_units pair.0) (catalog_units key))) parents
    ∙ ap (λ l. ordering_then (nat_cmp (catalog_parent key) (catalog_parent key)) (slice_cmp nat_cmp l (catalog_units key))) names
    ∙ cmp_same catalog_total key
  where
    cmp_same : {K : Type 0} {R : K → K → Ordering} → IsTotalOrder R → (x : K) → R x x ≡ Equal
    cmp_same {K} {R} total x = of_reverse (R x x) (total.antisymm x x)
      where
        of_reverse : (o : Ordering) → o ≡ ordering_reverse o → o ≡ Equal
        of_reverse Less same = cc
        of_reverse Equal same = refl
        of_reverse Greater same = cc

-- a key of the tree finds a record
pub has_key_finds : (key : List ℕ) (pairs : List Pair) → HasKey catalog_cmp key pairs → find (is_under key) pairs ≡ None → ⊥
has_key_finds key [] (k, inside, ties) none = absurd (omega (arith, inside))
has_key_finds key (pair ∷ rest) (zero, inside, ties) none = none_or_some pair (sym none ∙ ap (λ b. cond b (Some pair) (find (is_under key) rest)) (tied_is_under pair key ties))
has_key_finds key (pair ∷ rest) (suc k, inside, ties) none = by_test (is_under key pair) refl (has_key_finds key rest (k, omega (arith, inside), ties))
  where
    by_test : (b : Bool) → is_under key pair ≡ b → (find (is_under key) rest ≡ None → ⊥) → ⊥
    by_test true is later = none_or_some pair (sym none ∙ ap (λ b. cond b (Some pair) (find (is_under key) rest)) is)
    by_test false is later = later (sym (ap (λ b. cond b (Some pair) (find (is_under key) rest)) is) ∙ none)

-- a found record has its key in the tree
pub found_has_key : (key : List ℕ) (pairs : List Pair) (pair : Pair) → find (is_under key) pairs ≡ Some pair → HasKey catalog_cmp key pairs
found_has_key key [] pair found = absurd (none_or_some pair found)
found_has_key key (first ∷ rest) pair found = by_test (is_under key first) refl (found_has_key key rest pair)
  where
    by_test : (b : Bool) → is_under key first ≡ b → (find (is_under key) rest ≡ Some pair → HasKey catalog_cmp key rest) → HasKey catalog_cmp key (first ∷ rest)
    by_test true is later = (0, omega arith, under_is_tied first key is)
    by_test false is later =
        let has = later (sym (ap (λ b. cond b (Some first) (find (is_under key) rest)) is) ∙ found) in
        (suc has.0, omega (arith, has.1), has.2)

-- the search of records is that of pairs
pub record_at-map : (key : List ℕ) (pairs : List Pair) → record_at (placed_in pairs) (catalog_parent key) (catalog_units key) ≡ option_map placed_of (find (is_under key) pairs)
record_at-map key [] = refl
record_at-map key (pair ∷ rest) = by_test (is_under key pair) refl (record_at-map key rest)
  where
    by_test : (b : Bool) → is_under key pair ≡ b → record_at (placed_in rest) (catalog_parent key) (catalog_units key) ≡ option_map placed_of (find (is_under key) rest)
        → cond (is_under key pair) (Some (placed_of pair)) (record_at (placed_in rest) (catalog_parent key) (catalog_units key)) ≡ option_map placed_of (cond (is_under key pair) (Some pair) (find (is_under key) rest))
    by_test true is later = ap (λ b. cond b (Some (placed_of pair)) (record_at (placed_in rest) (catalog_parent key) (catalog_units key))) is ∙ ap (λ b. option_map placed_of (cond b (Some pair) (find (is_under key) rest))) (sym is)
    by_test false is later =
        ap (λ b. cond b (Some (placed_of pair)) (record_at (placed_in rest) (catalog_parent key) (catalog_units key))) is ∙ later
        ∙ ap (λ b. option_map placed_of (cond b (Some pair) (find (is_under key) rest))) (sym is)

less_or_equal : Less ≡ Equal → ⊥
less_or_equal same = cc

-- in ascending order one key alone ties
pub tied_is_found : (key : List ℕ) (pairs : List Pair) (place : ℕ) → AscendByKey pairs → place < length pairs → catalog_cmp (slice_index_or pairs place ([], [])).0 key ≡ Equal
    → find (is_under key) pairs ≡ Some (slice_index_or pairs place ([], []))
tied_is_found key [] place rises inside ties = absurd (omega (arith, inside))
tied_is_found key (pair ∷ rest) zero rises inside ties = ap (λ b. cond b (Some pair) (find (is_under key) rest)) (tied_is_under pair key ties)
tied_is_found key (pair ∷ rest) (suc place) rises inside ties = by_test (is_under key pair) refl (tied_is_found key rest place (λ i j before fits. rises (suc i) (suc j) (omega (arith, before)) (omega (arith, fits))) (omega (arith, inside)) ties)
  where
    by_test : (b : Bool) → is_under key pair ≡ b → find (is_under key) rest ≡ Some (slice_index_or rest place ([], [])) → find (is_under key) (pair ∷ rest) ≡ Some (slice_index_or rest place ([], []))
    by_test true is later =
        let less : catalog_cmp pair.0 (slice_index_or rest place ([], [])).0 ≡ Less = rises 0 (suc place) (omega arith) (omega (arith, inside)) in
        let same : catalog_cmp pair.0 (slice_index_or rest place ([], [])).0 ≡ catalog_cmp key (slice_index_or rest place ([], [])).0 = catalog_total.congr pair.0 key (slice_index_or rest place ([], [])).0 (under_is_tied pair key is) in
        let back : catalog_cmp key (slice_index_or rest place ([], [])).0 ≡ Equal = catalog_total.antisymm key (slice_index_or rest place ([], [])).0 ∙ ap ordering_reverse ties in
        absurd (less_or_equal (sym less ∙ same ∙ back))
    by_test false is later = ap (λ b. cond b (Some pair) (find (is_under key) rest)) is ∙ later

-- ---- by a key of a place

-- where there is no record at a place, no key ties with the key of the place
pub no_record_no_key : (parent : ℕ) (name key : List ℕ) (pairs : List Pair) → IsKeyOf parent name key → record_at (placed_in pairs) parent name ≡ None → HasKey catalog_cmp key pairs → ⊥
no_record_no_key parent name key pairs is none has = by_found (find (is_under key) pairs) refl
  where
    same : record_at (placed_in pairs) parent name ≡ option_map placed_of (find (is_under key) pairs)
    same = ap (λ n. record_at (placed_in pairs) n name) (sym is.parent_is) ∙ ap (λ l. record_at (placed_in pairs) (catalog_parent key) l) (sym is.name_is) ∙ record_at-map key pairs

    by_found : (found : Option Pair) → find (is_under key) pairs ≡ found → ⊥
    by_found None found = has_key_finds key pairs has found
    by_found (Some pair) found = none_or_some (placed_of pair) (sym none ∙ same ∙ ap (λ o. option_map placed_of o) found)

-- and where no key ties there is no record
pub no_key_no_record : (parent : ℕ) (name key : List ℕ) (pairs : List Pair) → IsKeyOf parent name key → (HasKey catalog_cmp key pairs → ⊥) → record_at (placed_in pairs) parent name ≡ None
no_key_no_record parent name key pairs is absent = by_found (find (is_under key) pairs) refl
  where
    same : record_at (placed_in pairs) parent name ≡ option_map placed_of (find (is_under key) pairs)
    same = ap (λ n. record_at (placed_in pairs) n name) (sym is.parent_is) ∙ ap (λ l. record_at (placed_in pairs) (catalog_parent key) l) (sym is.name_is) ∙ record_at-map key pairs

    by_found : (found : Option Pair) → find (is_under key) pairs ≡ found → record_at (placed_in pairs) parent name ≡ None
    by_found None found = same ∙ ap (λ o. option_map placed_of o) found
    by_found (Some pair) found = absurd (absent (found_has_key key pairs pair found))

-- the pairs of a tree rise by their keys
pub tree_ascends : (store : Store) → IsTree IsCatalogKey catalog_cmp store → AscendByKey (pairs_of store)
tree_ascends store tree = by_depth store.shape.depth refl
  where
    ascending : (xs : List (List ℕ)) → Ascends catalog_cmp xs → AscendByKey (map pair_of xs)
    ascending xs rises i j before fits =
        let inside : j < length xs = omega (arith, fits, length-map xs pair_of) in
        ap (λ (pair : Pair). catalog_cmp pair.0 (slice_index_or (map pair_of xs) j ([], [])).0) (get_or-map pair_of xs i [] ([], []) (omega (arith, before, inside)))
        ∙ ap (λ (pair : Pair). catalog_cmp (key_of (slice_index_or xs i [])) pair.0) (get_or-map pair_of xs j [] ([], []) inside)
        ∙ rises i j before inside

    by_depth : (depth : ℕ) → store.shape.depth ≡ depth → AscendByKey (leaves store.nodes store.shape.root depth)
    by_depth zero is = λ i j before fits. absurd (omega (arith, fits))
    by_depth (suc below) is = ascending (entries store.nodes (level store.nodes store.shape.root below)) (tree.ordered.ascends below (omega (arith, is)))

-- what a search by a key finds
pub record Holds (pairs : List Pair) (key value : List ℕ) : Type 0 where
  pub spelled : IsTrue (is_catalog value)
  pub found : value_at pairs (catalog_parent key) (catalog_units key) ≡ Some (catalog_of value)

pub found_holds : (store : Store) (desk : Desk) (key : List ℕ) → IsTree IsCatalogKey catalog_cmp store → AreSpelled (pairs_of store) → catalog_cmp desk.held.key key ≡ Equal
    → (k : ℕ) → HoldsPair store desk k → Holds (pairs_of store) key desk.held.value
unfolding placed_of
found_holds store desk key tree spelled ties k holds = record {
  spelled = subst (λ v. IsTrue (is_catalog v)) (sym holds.value) (spelled k ([], []) holds.inside);
  found =
      ap (λ o. option_map (λ (placed : Placed). placed.value) o) (record_at-map key (pairs_of store) ∙ ap (λ o. option_map placed_of o) is_found)
      ∙ ap (λ v. Some (catalog_of v)) (sym holds.value);
}
  where
    is_found : find (is_under key) (pairs_of store) ≡ Some (slice_index_or (pairs_of store) k ([], []))
    is_found = tied_is_found key (pairs_of store) k (tree_ascends store tree) holds.inside (sym (ap (λ l. catalog_cmp l key) holds.key) ∙ ties)

pub none_found : (key : List ℕ) (pairs : List Pair) → (HasKey catalog_cmp key pairs → ⊥) → None ≡ value_at pairs (catalog_parent key) (catalog_units key)
none_found key pairs absent = by_found (find (is_under key) pairs) refl
  where
    by_found : (found : Option Pair) → find (is_under key) pairs ≡ found → None ≡ value_at pairs (catalog_parent key) (catalog_units key)
    by_found None found = sym (ap (λ o. option_map (λ (placed : Placed). placed.value) o) (record_at-map key pairs ∙ ap (λ o. option_map placed_of o) found))
    by_found (Some pair) found = absurd (absent (found_has_key key pairs pair found))
