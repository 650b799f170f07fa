-- A walk over the pairs of the leaves, from left to right.
use Rattle.std.specs.Prelude.{◌≡◌, ◌<◌, ◌≤◌, ℕ, zero, suc, ◌+◌, ◌-◌, List, [], ◌++◌, ◌∷◌, Bool, true, false, Option, Some, None, length, map, if◌then◌else◌}
use Rattle.std.specs.List.{list_any}
use Rattle.std.specs.declared.cmp.Ordering.{Ordering}
use Rattle.btree_node.specs.Node.{items, next_of}
use Rattle.btree_node.specs.Levels.{Nodes, Pair, entries, level, pair_of}
use Rattle.btree_node.specs.Store.{Store}
use Rattle.btree_node.specs.Tree.{level_of, pairs_of, IsTreeNode}
use Rattle.btree_edit.specs.Desk.{HoldsPair, IsAbove}
use Rattle.btree_edit.specs.declared.desk.Desk.{Desk}

-- The desk has a leaf of the tree, and where so many of its records are passed, so many of all pairs are.
pub record StandsAt (store : Store) (desk : Desk) (at place : ℕ) : Type 0 where
  pub some : 0 < store.shape.depth
  pub leaf : ℕ
  pub front : List ℕ
  pub back : List ℕ
  pub is : level_of store (store.shape.depth - 1) ≡ front ++ leaf ∷ back
  pub node : desk.node ≡ store.nodes leaf
  pub within : at ≤ length (items (store.nodes leaf))
  pub passed : place ≡ length (entries store.nodes front) + at

-- Some: the walk stands before the pairs above the key. None: the tree has no pair.
abbrev pub Seeks : (List ℕ → List ℕ → Ordering) → List ℕ → Store → Desk → Option ℕ → Type 0
Seeks cmp key store desk None = length (pairs_of store) ≡ 0
Seeks cmp key store desk (Some at) = (place : ℕ) × StandsAt store desk at place × IsAbove cmp key (pairs_of store) place

-- Some: the desk holds the pair at this place, and the walk stands behind it. None: all pairs are passed.
abbrev pub StepsOn : Store → Desk → ℕ → Option ℕ → Type 0
StepsOn store desk place None = place ≡ length (pairs_of store)
StepsOn store desk place (Some at) = HoldsPair store desk place × StandsAt store desk at (place + 1)

-- the leaf behind the one on the desk is there now, where there is such a leaf
pub record Turns (store : Store) (old new : Desk) (turned : Bool) : Type 0 where
  pub none : next_of old.node ≡ 0 → turned ≡ false
  pub some : (next_of old.node ≡ 0 → ⊥) → IsTreeNode store 1 (next_of old.node) → turned ≡ true
  pub is : turned ≡ true → new.node ≡ store.nodes (next_of old.node)

-- ---- the leaves that a walk comes to

-- the leaves of a tree, from left to right; a tree of depth 0 has none
abbrev pub leaf_nodes : Nodes → ℕ → ℕ → List ℕ
leaf_nodes nodes root zero = []
leaf_nodes nodes root (suc below) = level nodes root below

abbrev pub leaves_of : Store → List ℕ
leaves_of store = leaf_nodes store.nodes store.shape.root store.shape.depth

-- 1 where neither number is 0
abbrev pub one_if_both : ℕ → ℕ → ℕ
one_if_both zero n = 0
one_if_both (suc m) zero = 0
one_if_both (suc m) (suc n) = 1

-- in how many of these leaves one of the first so many of their records stands
abbrev pub leaves_with : Nodes → List ℕ → ℕ → ℕ
leaves_with nodes [] many = 0
leaves_with nodes (leaf ∷ rest) many = one_if_both many (length (items (nodes leaf))) + leaves_with nodes rest (many - length (items (nodes leaf)))

-- in how many leaves one of the first so many pairs stands
abbrev pub leaves_until : Store → ℕ → ℕ
leaves_until store place = leaves_with store.nodes (leaves_of store) place

-- in how many of these leaves a pair passes a test
abbrev pub leaves_having : (Pair → Bool) → Nodes → List ℕ → ℕ
leaves_having test nodes [] = 0
leaves_having test nodes (leaf ∷ rest) = (if list_any test (map pair_of (items (nodes leaf))) then 1 else 0) + leaves_having test nodes rest

-- The number of leaves in which a pair passes a test.
abbrev pub leaves_where : (Pair → Bool) → Store → ℕ
leaves_where test store = leaves_having test store.nodes (leaves_of store)
