-- The chain of map nodes that stretches name, and how many stretches a file has at most.
use Rattle.std.proofs.Common.{◌≡◌, ◌≢◌, ℕ, suc, ◌+◌, ◌-◌, ◌≤◌, ◌<◌, true, ◌==◌, ◌||◌, List, [], ◌∷◌, map, length, get_or, sym, ◌∙◌, ap, arith, ⊎_elim}
use Rattle.std.specs.Cmp.{both_ways}
use Rattle.std.specs.List.{All, list_any}
use Rattle.std.proofs.lemmas.Bool.{or_cases, eqb-true, true≢false, or_right}
use Rattle.std.proofs.lemmas.Bool.Decides.{eqb_tells}
use Rattle.std.proofs.Math.ListN.{get_or-map}
use Rattle.std.proofs.lemmas.List.{length-map}
use Rattle.std.proofs.lemmas.List.Elements.{All-head, All-tail}
use Rattle.std.proofs.lemmas.Map.Keys.{IsDistinct-from_apart}
use Rattle.std.proofs.lemmas.Map.Steps.{length-le_from_distinct_below}
use Rattle.btree_node.specs.Levels.{Nodes}
use Rattle.btree_node.specs.Node.{next_of}
use Rattle.btree_node.specs.TreeFile.{map_chain, is_reserved_in}
use Rattle.btree_file.specs.Map.{is_reserved, AreStretches}
use Rattle.btree_file.specs.Walks.{names_of}
use Rattle.btree_file.specs.declared.tree.Stretch.{Stretch}
use Rattle.btree_file.proofs.Joined.{reserved_joined}
use Rattle.btree_file.proofs.Walking.{chain_none, chain_zero}

-- stretches of which each names the next one, the last none
pub record Follow (nodes : Nodes) (xs : List Stretch) : Type 0 where
  pub next : (k : ℕ) (d : Stretch) → k + 1 < length xs → next_of (nodes (get_or xs k d).node) ≡ (get_or xs (k + 1) d).node
  pub last : (k : ℕ) (d : Stretch) → k + 1 ≡ length xs → next_of (nodes (get_or xs k d).node) ≡ 0
  pub others : (k : ℕ) (d : Stretch) → 0 < k → k < length xs → (get_or xs k d).node ≢ 0

follow_rest : (nodes : Nodes) (x : Stretch) (xs : List Stretch) → Follow nodes (x ∷ xs) → Follow nodes xs
follow_rest nodes x xs f = record {
  next = λ k d low. f.next (suc k) d (omega (arith, low)) ∙ ap (λ i. (get_or (x ∷ xs) i d).node) {x = suc k + 1} {y = suc (k + 1)} (omega arith);
  last = λ k d is. f.last (suc k) d (omega (arith, is));
  others = λ k d above low. f.others (suc k) d (omega arith) (omega (arith, low));
}

pub chain_from : (nodes : Nodes) (x : Stretch) (xs : List Stretch) (fuel : ℕ) → length xs ≤ fuel → Follow nodes (x ∷ xs) → map_chain nodes fuel (next_of (nodes x.node)) ≡ map (λ (s : Stretch). s.node) xs
chain_from nodes x [] fuel enough f = chain_zero nodes fuel (next_of (nodes x.node)) (f.last 0 x (omega arith))
chain_from nodes x (y ∷ ys) fuel enough f =
    let named : next_of (nodes x.node) ≡ y.node = f.next 0 x (omega arith) in
    let other : y.node ≢ 0 = f.others 1 x (omega arith) (omega arith) in
    let rest = chain_from nodes y ys (fuel - 1) (omega (arith, enough)) (follow_rest nodes x (y ∷ ys) f) in
    ap (map_chain nodes fuel) named ∙ chain_none nodes fuel y.node other (omega (arith, enough)) ∙ ap (λ (l : List ℕ). y.node ∷ l) rest

-- the stretches of a file: the chain of map nodes is what they name
pub chain_named : (nodes : Nodes) (size fuel : ℕ) (xs : List Stretch) → AreStretches nodes size xs → ((i j : ℕ) (d : Stretch) → i < length xs → j < length xs → (get_or xs i d).node ≡ (get_or xs j d).node → i ≡ j)
    → length xs ≤ fuel → map_chain nodes fuel (next_of (nodes 0)) ≡ names_of xs
chain_named nodes size fuel [] are apart enough = absurd (omega (arith, are.some))
chain_named nodes size fuel (x ∷ xs) are apart enough =
    let zero_is : (d : Stretch) → (get_or (x ∷ xs) 0 d).node ≡ 0 = λ d. ap (λ (s : Stretch). s.node) (are.first d) in
    let f : Follow nodes (x ∷ xs) = record {
      next = are.next;
      last = are.last;
      others = λ k d above low is. absurd (omega (arith, above, apart 0 k d are.some low (zero_is d ∙ sym is)));
    } in
    ap (λ n. map_chain nodes fuel (next_of (nodes n))) {x = 0} {y = x.node} (sym (zero_is x)) ∙ chain_from nodes x xs fuel (omega (arith, enough)) f

-- ---- how many stretches there are

below_all : (xs : List Stretch) (total q : ℕ) → All (λ stretch. stretch.node < total) xs → list_any (λ n. q == n) (map (λ (s : Stretch). s.node) xs) ≡ true → q < total
below_all [] total q all any = absurd (true≢false (sym any))
below_all (x ∷ xs) total q all any = ⊎_elim
    (λ (is : (q == x.node) ≡ true). omega (arith, eqb-true q x.node is, All-head (λ (s : Stretch). s.node < total) x xs all))
    (λ (rest : list_any (λ n. q == n) (map (λ (s : Stretch). s.node) xs) ≡ true). below_all xs total q (All-tail (λ (s : Stretch). s.node < total) x xs all) rest)
    (or_cases (q == x.node) (list_any (λ n. q == n) (map (λ (s : Stretch). s.node) xs)) any)

pub few_stretches : (xs : List Stretch) (total : ℕ) → All (λ stretch. stretch.node < total) xs → ((i j : ℕ) (d : Stretch) → i < length xs → j < length xs → (get_or xs i d).node ≡ (get_or xs j d).node → i ≡ j) → length xs ≤ total
few_stretches xs total all apart =
    let long : length (map (λ (s : Stretch). s.node) xs) ≡ length xs = length-map xs (λ (s : Stretch). s.node) in
    let at : (i d : ℕ) → get_or (map (λ (s : Stretch). s.node) xs) i d ≡ (get_or xs i (record { node = d; at = 0; len = 0 })).node = λ i d. get_or-map (λ (s : Stretch). s.node) xs i (record { node = d; at = 0; len = 0 }) in
    let distinct = IsDistinct-from_apart (λ (a b : ℕ). a == b) (map (λ (s : Stretch). s.node) xs)
    (λ i j d order low. ⊎_elim (λ is. absurd (omega (arith, order, apart i j (record { node = d; at = 0; len = 0 }) (omega (arith, order, low, long)) (omega (arith, low, long)) (sym (at i d) ∙ is.1 ∙ at j d)))) (λ no. no.0)
    (eqb_tells (get_or (map (λ (s : Stretch). s.node) xs) i d) (get_or (map (λ (s : Stretch). s.node) xs) j d))) in
    omega (arith, long, length-le_from_distinct_below (map (λ (s : Stretch). s.node) xs) total distinct (λ q any. below_all xs total q all any))

-- ---- the header node and the map nodes

any_stretch : (xs : List Stretch) (n : ℕ) → list_any (λ other. other == n) (map (λ (s : Stretch). s.node) xs) ≡ true → list_any (λ stretch. stretch.node == n) xs ≡ true
any_stretch [] n any = any
any_stretch (x ∷ xs) n any = ⊎_elim
    (λ (is : (x.node == n) ≡ true). ap (λ t. t || list_any (λ stretch. stretch.node == n) xs) is)
    (λ (rest : list_any (λ other. other == n) (map (λ (s : Stretch). s.node) xs) ≡ true). or_right (x.node == n) (list_any (λ stretch. stretch.node == n) xs) (any_stretch xs n rest))
    (or_cases (x.node == n) (list_any (λ other. other == n) (map (λ (s : Stretch). s.node) xs)) any)

pub reserved_back : (nodes : Nodes) (size : ℕ) (xs : List Stretch) (n : ℕ) → AreStretches nodes size xs → is_reserved_in (names_of xs) n ≡ true → is_reserved xs n ≡ true
reserved_back nodes size [] n are is = absurd (omega (arith, are.some))
reserved_back nodes size (x ∷ xs) n are is = ⊎_elim
    (λ (front : (n == 0) ≡ true). ap (λ t. t || list_any (λ stretch. stretch.node == n) (x ∷ xs)) front)
    (λ (later : list_any (λ other. other == n) (names_of (x ∷ xs)) ≡ true). or_right (n == 0) (list_any (λ stretch. stretch.node == n) (x ∷ xs)) (or_right (x.node == n) (list_any (λ stretch. stretch.node == n) xs) (any_stretch xs n later)))
    (or_cases (n == 0) (list_any (λ other. other == n) (names_of (x ∷ xs))) is)

pub reserved_same : (nodes : Nodes) (size : ℕ) (xs : List Stretch) (n : ℕ) → AreStretches nodes size xs → is_reserved xs n ≡ is_reserved_in (names_of xs) n
reserved_same nodes size xs n are = both_ways (is_reserved xs n) (is_reserved_in (names_of xs) n) (reserved_joined nodes size xs n are) (reserved_back nodes size xs n are)
