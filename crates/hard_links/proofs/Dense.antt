-- A list in which all numbers up to one stand has at least as many items.
use Rattle.std.proofs.Common.{◌≡◌, ◌≢◌, ◌≤◌, ◌<◌, ◌+◌, ◌-◌, ◌^◌, ℕ, zero, suc, Bool, true, false, cond, List, [], ◌∷◌, ◌++◌, length, map, drop, inl, inr, refl, sym, ◌∙◌, ap, subst, arith}
use Rattle.std.specs.Prelude.{Contains, Option, None, Some, find, decimal, ◌==◌, ◌&&◌}
use Rattle.std.specs.Str.{bytes_eq}
use Rattle.std.specs.Str.Parse.{digits_value}
use Rattle.std.proofs.lemmas.Bool.{and_parts}
use Rattle.std.proofs.lemmas.Fmt.{decimal_is_IsNumeral}
use Rattle.std.proofs.lemmas.Slice.Eq.{bytes_eq-Decides}
use Rattle.btree_node.specs.Keys.{IsCatalogKey, catalog_cmp}
use Rattle.btree_node.specs.Levels.{Pair}
use Rattle.btree_node.specs.Store.{Store}
use Rattle.btree_node.specs.Tree.{IsTree, pairs_of}
use Rattle.hfs_volume.specs.Records.{Placed, placed_in, placed_of, is_placed_at, record_at, numbered}
use Rattle.hfs_volume.proofs.Members.{first_or_later, at_front, behind, map_stands}
use Rattle.hard_links.specs.Numbers.{IsFree, AreTaken}

-- without one of its items a list is one shorter, and has all others
without_one : (m : ℕ) (xs : List ℕ) → Contains xs m → (ys : List ℕ) × (length xs ≡ suc (length ys)) × ((n : ℕ) → n ≢ m → Contains xs n → Contains ys n)
without_one m [] stands = absurd (omega (arith, stands.1))
without_one m (x ∷ xs) stands = elim (first_or_later x m xs stands) [
  | inl is ↦ (
    xs,
    refl,
    λ n differs there. elim (first_or_later x n xs there) [
      | inl also ↦ absurd (differs (also ∙ sym is))
      | inr later ↦ later
    ],
  )
  | inr later ↦
      let rest = without_one m xs later in (
        x ∷ rest.0,
        ap suc rest.1,
        λ n differs there. elim (first_or_later x n xs there) [
          | inl is ↦ subst (λ z. Contains (x ∷ rest.0) z) (sym is) (at_front x rest.0)
          | inr also ↦ behind x n rest.0 (rest.2 n differs also)
        ],
      )
]

dense : (m : ℕ) (xs : List ℕ) → ((n : ℕ) → 1 ≤ n → n ≤ m → Contains xs n) → m ≤ length xs
dense zero xs all = omega arith
dense (suc m) xs all =
    let rest = without_one (suc m) xs (all (suc m) (omega arith) (omega arith)) in
    let fewer = dense m rest.0 (λ n some most. rest.2 n (λ same. omega (arith, same, most)) (all n some (omega (arith, most)))) in
    omega (arith, fewer, rest.1)

-- what is found stands in the list and passes
pub found_or_none : (test : Placed → Bool) (xs : List Placed) → (find test xs ≡ None → ⊥) → (x : Placed) × Contains xs x × (test x ≡ true)
found_or_none test [] some = absurd (some refl)
found_or_none test (y ∷ ys) some = by_test (test y) refl (found_or_none test ys)
  where
    by_test : (b : Bool) → test y ≡ b → ((find test ys ≡ None → ⊥) → (x : Placed) × Contains ys x × (test x ≡ true)) → (x : Placed) × Contains (y ∷ ys) x × (test x ≡ true)
    by_test true is later = (y, at_front y ys, is)
    by_test false is later =
        let rest = later (λ none. some (ap (λ b. cond b (Some y) (find test ys)) is ∙ none)) in
        (rest.0, behind y rest.0 ys rest.1, rest.2)

abbrev number_in : List ℕ → Placed → ℕ
number_in word placed = digits_value 10 (drop (length word) placed.name)

drop_front : (word rest : List ℕ) → drop (length word) (word ++ rest) ≡ rest
drop_front [] rest = refl
drop_front (x ∷ xs) rest = drop_front xs rest

taken_stands : (pairs : List Pair) (private : ℕ) (word : List ℕ) (n : ℕ) → n < 2 ^ 32 → (IsFree pairs private word n → ⊥) → Contains (map (number_in word) (placed_in pairs)) n
taken_stands pairs private word n small taken =
    let found = found_or_none (is_placed_at private (numbered word n)) (placed_in pairs) taken in
    let name : found.0.name ≡ word ++ decimal n = (bytes_eq-Decides found.0.name (numbered word n)).0 (and_parts (found.0.parent == private) (bytes_eq found.0.name (numbered word n)) found.2).1 in
    let number : number_in word found.0 ≡ n = ap (λ l. digits_value 10 (drop (length word) l)) name ∙ ap (digits_value 10) (drop_front word (decimal n)) ∙ (decimal_is_IsNumeral n (omega (arith, small))).1 in
    subst (λ m. Contains (map (number_in word) (placed_in pairs)) m) number (map_stands (number_in word) (placed_in pairs) found.0 found.1)

length_map : {X Y : Type 0} (f : X → Y) (xs : List X) → length (map f xs) ≡ length xs
length_map f [] = refl
length_map f (x ∷ xs) = ap suc (length_map f xs)

-- there are fewer records than numbers
pub not_all_taken : (store : Store) (private : ℕ) (word : List ℕ) → IsTree IsCatalogKey catalog_cmp store → store.shape.leaf_records < 2 ^ 32 - 1 → AreTaken (pairs_of store) private word 1 (2 ^ 32) → ⊥
not_all_taken store private word tree few taken =
    let pairs = pairs_of store in
    let many = dense 4294967295 (map (number_in word) (placed_in pairs)) (λ n some most. taken_stands pairs private word n (omega (arith, most)) (taken n some (omega (arith, most)))) in
    let counted = length_map (number_in word) (placed_in pairs) ∙ length_map placed_of pairs in
    omega (arith, many, counted, few, tree.header.leaf_records)
