-- What makes nodes a tree.
use Rattle.std.specs.Prelude.{◌≡◌, ◌⊎◌, ◌<◌, ◌≤◌, ◌↔◌, ℕ, zero, suc, ℤ, pos, negsuc, ◌+◌, ◌-◌, ◌/◌, true, false, IsTrue, count_by, List, [], ◌∷◌, length, map, slice_index, slice_index_or}
use Rattle.std.specs.List.{All, range_with_len}
use Rattle.std.specs.declared.cmp.Ordering.{Ordering}
use Rattle.btree_node.specs.Node.{IsNodeOf, items, next_of, back_of}
use Rattle.btree_node.specs.Levels.{Pair, entries, level, leaves, key_of, record_for, Ascends}
use Rattle.btree_node.specs.Store.{Store}

-- the kind of the nodes at a height: leaves are at height 1, index nodes above
abbrev pub kind_at : ℕ → ℤ
kind_at zero = pos 0
kind_at (suc zero) = negsuc 0
kind_at (suc (suc above)) = pos 0

-- the nodes of a store's tree so many levels below the root
abbrev pub level_of : Store → ℕ → List ℕ
level_of store below = level store.nodes store.shape.root below

-- the records of that level
abbrev pub entries_of : Store → ℕ → List (List ℕ)
entries_of store below = entries store.nodes (level_of store below)

-- the pairs of a store's tree
abbrev pub pairs_of : Store → List Pair
pairs_of store = leaves store.nodes store.shape.root store.shape.depth

-- a node of the tree at this height
pub record IsTreeNode (store : Store) (height n : ℕ) : Type 0 where
  pub inside : n < store.shape.total
  pub kind : IsNodeOf (kind_at height) height (store.nodes n)
  pub size : length (store.nodes n) ≡ store.shape.node_size

-- each level has its nodes, and each record of an index level is the first key of its child with the child's number
pub record HasLevels (is_key : List ℕ → Type 0) (store : Store) : Type 0 where
  pub nodes : (j k : ℕ) → j < store.shape.depth → k < length (level_of store j) → IsTreeNode store (store.shape.depth - j) (slice_index (level_of store j) k)
  pub named : (j : ℕ) → j + 1 < store.shape.depth → entries_of store j ≡ map (λ n. record_for store.nodes n) (level_of store (j + 1))
  -- a root alone may be without records
  pub some : (j k : ℕ) → j + 1 < store.shape.depth → k < length (level_of store (j + 1)) → 0 < length (items (store.nodes (slice_index (level_of store (j + 1)) k)))
  pub keys : (j k : ℕ) → j < store.shape.depth → k < length (entries_of store j) → is_key (key_of (slice_index_or (entries_of store j) k []))
  pub short : (j k : ℕ) → j + 1 ≡ store.shape.depth → k < length (entries_of store j) → length (slice_index_or (entries_of store j) k []) ≤ store.shape.node_size / 2 - 10

-- the keys of each level rise strictly, and its nodes name each other in its order
pub record IsOrdered (cmp : List ℕ → List ℕ → Ordering) (store : Store) : Type 0 where
  pub ascends : (j : ℕ) → j < store.shape.depth → Ascends cmp (entries_of store j)
  pub next : (j k : ℕ) → j < store.shape.depth → k < length (level_of store j) → next_of (store.nodes (slice_index (level_of store j) k)) ≡ slice_index (level_of store j) (k + 1)
  pub back : (j k : ℕ) → j < store.shape.depth → k < length (level_of store j) → back_of (store.nodes (slice_index (level_of store j) k)) ≡ slice_index (0 ∷ level_of store j) k

-- the header's numbers are those of the leaves
pub record HasHeader (store : Store) : Type 0 where
  pub depth : store.shape.depth ≤ 12
  pub empty : store.shape.depth ≡ 0 → store.shape.root ≡ 0
  pub leaf_records : store.shape.leaf_records ≡ length (pairs_of store)
  pub first : (j : ℕ) → j + 1 ≡ store.shape.depth → store.shape.first ≡ slice_index (level_of store j) 0
  pub last : (j : ℕ) → j + 1 ≡ store.shape.depth → store.shape.last ≡ slice_index (level_of store j) (length (level_of store j) - 1)
  pub no_leaf : store.shape.depth ≡ 0 → (store.shape.first ≡ 0) × (store.shape.last ≡ 0)

-- a node stands in the tree
pub record IsReached (store : Store) (n : ℕ) : Type 0 where
  pub below : ℕ
  pub place : ℕ
  pub of_tree : below < store.shape.depth
  pub inside : place < length (level_of store below)
  pub is : slice_index (level_of store below) place ≡ n

-- the nodes of the tree are distinct, and with the header node and the map nodes they are exactly those with a bit in the map
pub record IsMapped (store : Store) : Type 0 where
  pub used : (n : ℕ) → n < store.shape.total → store.used n ≡ true ↔ (IsReached store n ⊎ IsTrue (store.reserved n))
  pub of_tree : (n : ℕ) → IsReached store n → store.reserved n ≡ false
  pub header : store.reserved 0 ≡ true
  pub distinct : (j k i m : ℕ) → j < store.shape.depth → k < length (level_of store j) → i < store.shape.depth → m < length (level_of store i)
      → slice_index (level_of store j) k ≡ slice_index (level_of store i) m → (j ≡ i) × (k ≡ m)
  pub free : store.shape.free + count_by (λ n. store.used n) (range_with_len 0 store.shape.total) ≡ store.shape.total

-- The rules of a tree: its nodes, its order, its header's numbers and its map.
pub record IsTree (is_key : List ℕ → Type 0) (cmp : List ℕ → List ℕ → Ordering) (store : Store) : Type 0 where
  pub levels : HasLevels is_key store
  pub ordered : IsOrdered cmp store
  pub header : HasHeader store
  pub mapped : IsMapped store

-- the values of its pairs are such as the tree's order has
abbrev pub HasValues : (List ℕ → Type 0) → Store → Type 0
HasValues is_value store = All (λ pair. is_value pair.1) (pairs_of store)
