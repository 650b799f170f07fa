-- The stretches of a map, joined, are the map that the nodes say.
use Rattle.std.proofs.Common.{◌≡◌, ℕ, suc, ◌+◌, ◌-◌, ◌*◌, ◌/◌, ◌≤◌, ◌<◌, true, ◌==◌, ◌||◌, List, [], ◌∷◌, ◌++◌, map, length, get_or, slice_range, refl, sym, ◌∙◌, ap, arith, ⊎_elim, length-append}
use Rattle.std.specs.List.{All, flat_map, list_any}
use Rattle.std.proofs.lemmas.Bool.{cases_lt, or_cases, eqb-true, eq-eqb, or_left, or_right}
use Rattle.std.proofs.lemmas.List.Edits.{length-between, get_or-between}
use Rattle.std.proofs.lemmas.List.Elements.{All-head, All-tail}
use Rattle.std.proofs.lemmas.List.Sums.{sum_by-cons}
use Rattle.flag_rows.specs.Bits.{bit_of}
use Rattle.flag_rows.proofs.ByteLaws.{bit_alike, bits_left, bits_right}
use Rattle.btree_node.specs.Levels.{Nodes}
use Rattle.btree_node.specs.Node.{offset}
use Rattle.btree_node.specs.TreeFile.{map_bytes, map_record, is_reserved_in}
use Rattle.btree_node.proofs.Items.{item-is}
use Rattle.btree_file.specs.Map.{used_in, bits_of, is_reserved, IsMapRecord, AreStretches}
use Rattle.btree_file.specs.Walks.{names_of}
use Rattle.btree_file.specs.declared.tree.Stretch.{Stretch}
use Rattle.btree_file.proofs.MapLaws.{in_part, past_part}

-- the bytes of a stretch
abbrev pub bytes_in : Nodes → Stretch → List ℕ
bytes_in nodes stretch = slice_range (nodes stretch.node) stretch.at (stretch.at + stretch.len)

-- the nodes have the stretches
abbrev pub AreIn : Nodes → List Stretch → Type 0
AreIn nodes stretches = All (λ stretch. stretch.at + stretch.len ≤ length (nodes stretch.node)) stretches

length_in : (nodes : Nodes) (s : Stretch) → s.at + s.len ≤ length (nodes s.node) → length (bytes_in nodes s) ≡ s.len
length_in nodes s low = omega (arith, length-between (nodes s.node) s.at (s.at + s.len) low)

bit_in : (nodes : Nodes) (s : Stretch) (n : ℕ) → n < 8 * s.len → bit_of (bytes_in nodes s) n ≡ bit_of (nodes s.node) (8 * s.at + n)
bit_in nodes s n low = bit_alike (bytes_in nodes s) (nodes s.node) n (8 * s.at + n)
    (get_or-between (nodes s.node) s.at (s.at + s.len) (n / 8) 0 (omega (arith, low)) ∙ ap (λ i. get_or (nodes s.node) i 0) {x = s.at + n / 8} {y = (8 * s.at + n) / 8} (omega arith)) (omega arith)

pub length_joined : (nodes : Nodes) (xs : List Stretch) → AreIn nodes xs → 8 * length (flat_map (bytes_in nodes) xs) ≡ bits_of xs
length_joined nodes [] are = refl
length_joined nodes (x ∷ xs) are =
    omega (
      arith,
      length-append (bytes_in nodes x) (flat_map (bytes_in nodes) xs),
      length_in nodes x (All-head (λ (s : Stretch). s.at + s.len ≤ length (nodes s.node)) x xs are),
      length_joined nodes xs (All-tail (λ (s : Stretch). s.at + s.len ≤ length (nodes s.node)) x xs are),
      sum_by-cons (λ (s : Stretch). 8 * s.len) x xs,
    )

pub used_joined : (nodes : Nodes) (xs : List Stretch) → AreIn nodes xs → (n : ℕ) → n < bits_of xs → used_in nodes xs n ≡ bit_of (flat_map (bytes_in nodes) xs) n
used_joined nodes [] are n low = absurd (omega (arith, low))
used_joined nodes (x ∷ xs) are n low =
    let here = All-head (λ (s : Stretch). s.at + s.len ≤ length (nodes s.node)) x xs are in
    let long = length_in nodes x here in
    ⊎_elim
    (λ (lt : n < 8 * x.len). in_part nodes x xs n lt ∙ sym (bit_in nodes x n lt) ∙ sym (bits_left (bytes_in nodes x) (flat_map (bytes_in nodes) xs) n (omega (arith, lt, long))))
    (λ (ge : 8 * x.len ≤ n).
    past_part nodes x xs n ge ∙ used_joined nodes xs (All-tail (λ (s : Stretch). s.at + s.len ≤ length (nodes s.node)) x xs are) (n - 8 * x.len) (omega (arith, ge, low, sum_by-cons (λ (s : Stretch). 8 * s.len) x xs))
    ∙ sym (bits_right (bytes_in nodes x) (flat_map (bytes_in nodes) xs) n (n - 8 * x.len) (omega (arith, ge, long))))
    (cases_lt n (8 * x.len))

-- ---- the map that the nodes say

record_bytes : (nodes : Nodes) (s : Stretch) → IsMapRecord (nodes s.node) s → map_record (nodes s.node) ≡ bytes_in nodes s
record_bytes nodes s is = item-is (nodes s.node) 0 is.some ∙ ap (λ a. slice_range (nodes s.node) a (offset (nodes s.node) (0 + 1))) (sym is.from) ∙ ap (λ b. slice_range (nodes s.node) s.at b) (sym is.to)

rest_joined : (nodes : Nodes) (xs : List Stretch) → ((k : ℕ) (d : Stretch) → k < length xs → IsMapRecord (nodes (get_or xs k d).node) (get_or xs k d)) → flat_map (λ n. map_record (nodes n)) (map (λ (s : Stretch). s.node) xs) ≡ flat_map (bytes_in nodes) xs
rest_joined nodes [] each = refl
rest_joined nodes (x ∷ xs) each =
    let first = record_bytes nodes x (each 0 x (omega arith)) in
    let more = rest_joined nodes xs (λ k d low. each (suc k) d (omega (arith, low))) in
    rw (first, more) refl

pub map_joined : (nodes : Nodes) (size : ℕ) (xs : List Stretch) → 512 ≤ size → AreStretches nodes size xs → map_bytes nodes size (names_of xs) ≡ flat_map (bytes_in nodes) xs
unfolding map_bytes
map_joined nodes size [] large are = absurd (omega (arith, are.some))
map_joined nodes size (x ∷ xs) large are =
    let first : x ≡ (record { node = 0; at = 248; len = size - 256 }) = are.first x in
    let front : slice_range (nodes 0) 248 (size - 8) ≡ bytes_in nodes x =
    ap (λ b. slice_range (nodes 0) 248 b) {x = size - 8} {y = 248 + (size - 256)} (omega (arith, large)) ∙ ap (λ (s : Stretch). bytes_in nodes s) (sym first) in
    let more = rest_joined nodes xs (λ k d low. are.each (suc k) d (omega arith) (omega (arith, low))) in
    ap (λ (l : List ℕ). l ++ flat_map (λ n. map_record (nodes n)) (names_of (x ∷ xs))) front ∙ ap (λ (l : List ℕ). bytes_in nodes x ++ l) more

-- ---- the header node and the map nodes

any_names : (xs : List Stretch) (n : ℕ) → list_any (λ stretch. stretch.node == n) xs ≡ list_any (λ other. other == n) (map (λ (s : Stretch). s.node) xs)
any_names [] n = refl
any_names (x ∷ xs) n = ap (λ t. (x.node == n) || t) (any_names xs n)

pub reserved_joined : (nodes : Nodes) (size : ℕ) (xs : List Stretch) (n : ℕ) → AreStretches nodes size xs → is_reserved xs n ≡ true → is_reserved_in (names_of xs) n ≡ true
reserved_joined nodes size [] n are is = absurd (omega (arith, are.some))
reserved_joined nodes size (x ∷ xs) n are is = ⊎_elim
    (λ (front : (n == 0) ≡ true). or_left (n == 0) (list_any (λ other. other == n) (names_of (x ∷ xs))) front)
    (λ (later : list_any (λ stretch. stretch.node == n) (x ∷ xs) ≡ true). ⊎_elim
    (λ (head : (x.node == n) ≡ true).
    let zero_is : n ≡ 0 = sym (eqb-true x.node n head) ∙ ap (λ (s : Stretch). s.node) (are.first x) in
    or_left (n == 0) (list_any (λ other. other == n) (names_of (x ∷ xs))) (eq-eqb n 0 zero_is))
    (λ (rest : list_any (λ stretch. stretch.node == n) xs ≡ true). or_right (n == 0) (list_any (λ other. other == n) (names_of (x ∷ xs))) (sym (any_names xs n) ∙ rest))
    (or_cases (x.node == n) (list_any (λ stretch. stretch.node == n) xs) later))
    (or_cases (n == 0) (list_any (λ stretch. stretch.node == n) (x ∷ xs)) is)
