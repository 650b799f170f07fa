-- A tree in the middle of an edit, which climbs from a leaf to the root.
use Rattle.std.specs.Prelude.{◌≡◌, ◌≢◌, ◌⊎◌, ◌<◌, ◌≤◌, ℕ, zero, suc, ◌+◌, ◌-◌, ◌/◌, true, List, count_by, length, map, [], slice_index, slice_index_or}
use Rattle.std.specs.List.{range_with_len}
use Rattle.std.specs.declared.cmp.Ordering.{Ordering}
use Rattle.btree_node.specs.Node.{items}
use Rattle.btree_node.specs.Levels.{Nodes, entries, key_of, record_for, splice, Ascends}
use Rattle.btree_node.specs.Store.{Store}
use Rattle.btree_node.specs.Tree.{IsTreeNode}
use Rattle.btree_edit.specs.LevelEdit.{bit, times, Linked}

-- the nodes of each level, from the root's down
abbrev pub LevelLists : Type 0
LevelLists = ℕ → List ℕ

-- one level of a tree: its nodes at their height, with keys that rise strictly, and linked in order
pub record IsLevel (is_key : List ℕ → Type 0) (cmp : List ℕ → List ℕ → Ordering) (store : Store) (height : ℕ) (ns : List ℕ) : Type 0 where
  pub nodes : (k : ℕ) → k < length ns → IsTreeNode store height (slice_index ns k)
  pub keys : (k : ℕ) → k < length (entries store.nodes ns) → is_key (key_of (slice_index_or (entries store.nodes ns) k []))
  pub ascends : Ascends cmp (entries store.nodes ns)
  pub linked : Linked store.nodes 0 ns 0
  pub short : height ≡ 1 → (k : ℕ) → k < length (entries store.nodes ns) → length (slice_index_or (entries store.nodes ns) k []) ≤ store.shape.node_size / 2 - 10

-- each of these nodes has a record
abbrev pub NoneEmpty : Nodes → List ℕ → Type 0
NoneEmpty nodes ns = (k : ℕ) → k < length ns → 0 < length (items (nodes (slice_index ns k)))

-- how often a node stands in the first so many levels
abbrev pub count_in_levels : LevelLists → ℕ → ℕ → ℕ
count_in_levels levels zero n = 0
count_in_levels levels (suc depth) n = count_in_levels levels depth n + times n (levels depth)

-- The rules of a tree with these levels, but for what the level `from` hands on: the records that name its nodes are those of the level above it,
-- with `put` in place of the one at `place`. With `from` at 0 they are the rules of a whole tree.
pub record IsTreeBut (is_key : List ℕ → Type 0) (cmp : List ℕ → List ℕ → Ordering) (store : Store) (depth : ℕ) (levels : LevelLists) (from place : ℕ) (put : List (List ℕ)) : Type 0 where
  pub each : (j : ℕ) → j < depth → IsLevel is_key cmp store (depth - j) (levels j)
  pub some : (j : ℕ) → j < depth → 0 < j ⊎ (from ≤ j) → NoneEmpty store.nodes (levels j)
  pub named : (j : ℕ) → j + 1 < depth → j + 1 ≢ from → entries store.nodes (levels j) ≡ map (λ n. record_for store.nodes n) (levels (j + 1))
  pub wanted : (j : ℕ) → j + 1 < depth → j + 1 ≡ from → map (λ n. record_for store.nodes n) (levels (j + 1)) ≡ splice (entries store.nodes (levels j)) place (place + 1) put
  -- each node with a bit in the map stands in one of the levels, once, or is reserved
  pub mapped : (n : ℕ) → n < store.shape.total → count_in_levels levels depth n + bit (store.reserved n) ≡ bit (store.used n)
  pub header : store.reserved 0 ≡ true
  pub free : store.shape.free + count_by (λ n. store.used n) (range_with_len 0 store.shape.total) ≡ store.shape.total
