-- One level of an edit: in one node of the level some records are put in place of at most one, and the nodes that hold the records then are handed on.
use Rattle.std.specs.Prelude.{◌≡◌, ◌≢◌, ◌⊎◌, ◌<◌, ◌≤◌, ℕ, ◌+◌, ◌-◌, ◌*◌, Bool, true, false, List, [], ◌∷◌, ◌++◌, length, map, take, sum_by, eqb, slice_index, slice_index_or}
use Rattle.btree_node.specs.Node.{items, next_of, back_of, SetsLinks}
use Rattle.btree_node.specs.Levels.{Nodes, entries, record_for, splice}
use Rattle.btree_node.specs.Store.{Store, SameStore, with_free}
use Rattle.btree_node.specs.Tree.{IsTreeNode}
use Rattle.btree_node.specs.declared.store.TreeShape.{TreeShape}
use Rattle.btree_edit.specs.declared.desk.Desk.{Desk}

-- 1 for true
abbrev pub bit : Bool → ℕ
bit true = 1
bit false = 0

-- how often a number stands in a list
abbrev pub times : ℕ → List ℕ → ℕ
times n [] = 0
times n (m ∷ ms) = bit (eqb m n) + times n ms

-- the first of some nodes, or the one behind them
abbrev pub head_or : List ℕ → ℕ → ℕ
head_or [] behind = behind
head_or (n ∷ ns) behind = n

-- the last of some nodes, or the one before them
abbrev pub last_or : List ℕ → ℕ → ℕ
last_or [] before = before
last_or (n ∷ ns) before = last_or ns n

-- the nodes name each other in order, the first of them the node before, and the last the node behind
abbrev pub Linked : Nodes → ℕ → List ℕ → ℕ → Type 0
Linked nodes before [] behind = Unit {0}
Linked nodes before (n ∷ ns) behind = (back_of (nodes n) ≡ before) × (next_of (nodes n) ≡ head_or ns behind) × Linked nodes n ns behind

-- what records take in a node, with their offsets
abbrev pub taken : List (List ℕ) → ℕ
taken records = sum_by (λ bytes. length bytes + 2) records

-- the room of a node of this size for records with their offsets
abbrev pub node_room : ℕ → ℕ
node_room size = size - 16

-- the first so many of the records that a level hands on
abbrev pub records_on : ℕ → Desk → List (List ℕ)
records_on count desk = take count ((desk.first.key ++ desk.first.value) ∷ (desk.second.key ++ desk.second.value) ∷ [])

-- the records of a node with others in place of some from a place on
abbrev pub edited : Store → ℕ → ℕ → Bool → List (List ℕ) → List (List ℕ)
edited store node place removed put = splice (items (store.nodes node)) place (place + bit removed) put

-- a node beside another of its level
pub record IsBeside (store : Store) (height node n : ℕ) : Type 0 where
  pub is_node : IsTreeNode store height n
  pub used : store.used n ≡ true
  pub of_tree : store.reserved n ≡ false
  pub other : n ≢ node

-- a node of a tree, between its neighbours
pub record IsInLevel (store : Store) (height node : ℕ) : Type 0 where
  pub is_node : IsTreeNode store height node
  pub used : store.used node ≡ true
  pub of_tree : store.reserved node ≡ false
  pub before : back_of (store.nodes node) ≢ 0 → IsBeside store height node (back_of (store.nodes node)) × (next_of (store.nodes (back_of (store.nodes node))) ≡ node)
  pub behind : next_of (store.nodes node) ≢ 0 → IsBeside store height node (next_of (store.nodes node)) × (back_of (store.nodes (next_of (store.nodes node))) ≡ node)
  pub apart : back_of (store.nodes node) ≢ 0 → back_of (store.nodes node) ≢ next_of (store.nodes node)

-- records that fit into two nodes of this size, wherever the cut nearest to the half falls: none takes more than half of a node's room,
-- and what they take leaves room for one more of the longest
pub record FitsTwo (size : ℕ) (records : List (List ℕ)) : Type 0 where
  pub longest : ℕ
  pub each : (k : ℕ) → k < length records → length (slice_index_or records k []) + 2 ≤ longest
  pub half : 2 * longest ≤ node_room size
  pub whole : taken records + longest ≤ 2 * node_room size

-- a sixth of a node is bytes of its records
abbrev pub HasSixth : List ℕ → Type 0
HasSixth node = length node ≤ 6 * sum_by (λ bytes. length bytes) (items node)

-- an edit of a node that has its place, and for which there is room, in this node or in two
pub record CanEdit (store : Store) (height node place : ℕ) (removed : Bool) (put : List (List ℕ)) (spare : ℕ) : Type 0 where
  pub spot : IsInLevel store height node
  pub inside : place + bit removed ≤ length (items (store.nodes node))
  pub fits : FitsTwo store.shape.node_size (edited store node place removed put)
  pub enough : taken (edited store node place removed put) ≤ node_room store.shape.node_size ⊎ (0 < spare)

-- the first and the last leaf, where a leaf was changed into others
pub record MovesEnds (height node : ℕ) (parts : List ℕ) (before behind : ℕ) (old new : TreeShape) : Type 0 where
  pub above : height ≢ 1 → (new.first ≡ old.first) × (new.last ≡ old.last)
  pub first : height ≡ 1 → old.first ≡ node → new.first ≡ head_or parts behind
  pub other_first : height ≡ 1 → old.first ≢ node → new.first ≡ old.first
  pub last : height ≡ 1 → old.last ≡ node → new.last ≡ last_or parts before
  pub other_last : height ≡ 1 → old.last ≢ node → new.last ≡ old.last
  pub root : new.root ≡ old.root
  pub depth : new.depth ≡ old.depth
  pub leaf_records : new.leaf_records ≡ old.leaf_records

-- the nodes that hold a node's records after an edit: none, the node, or the node and a fresh one behind it
abbrev pub parts_of : ℕ → ℕ → ℕ → List ℕ
parts_of count node fresh = take count (node ∷ fresh ∷ [])

-- The edit of one node of a level. `count` nodes are handed on, and the desk has the records that name them; `changed` is false only where the record that named the node stays.
pub record LevelEdit (old new : Store) (height node place : ℕ) (removed : Bool) (put : List (List ℕ)) (count : ℕ) (changed : Bool) (desk : Desk) (before after : TreeShape) : Type 0 where
  pub fresh : ℕ
  pub most : count ≤ 2
  -- the nodes hold the node's records with the others put among them, and none of them is empty
  pub records : entries new.nodes (parts_of count node fresh) ≡ edited old node place removed put
  pub nodes : (k : ℕ) → k < count → IsTreeNode new height (slice_index (parts_of count node fresh) k)
  pub some : (k : ℕ) → k < count → 0 < length (items (new.nodes (slice_index (parts_of count node fresh) k)))
  -- they stand between the node's neighbours, which name them, and no other node is changed
  pub links : Linked new.nodes (back_of (old.nodes node)) (parts_of count node fresh) (next_of (old.nodes node))
  pub back : back_of (old.nodes node) ≢ 0
      → SetsLinks (head_or (parts_of count node fresh) (next_of (old.nodes node))) (back_of (old.nodes (back_of (old.nodes node)))) (old.nodes (back_of (old.nodes node))) (new.nodes (back_of (old.nodes node)))
  pub next : next_of (old.nodes node) ≢ 0
      → SetsLinks (next_of (old.nodes (next_of (old.nodes node)))) (last_or (parts_of count node fresh) (back_of (old.nodes node))) (old.nodes (next_of (old.nodes node))) (new.nodes (next_of (old.nodes node)))
  pub others : (k : ℕ) → old.reserved k ≡ false → k ≢ node → times k (parts_of count node fresh) ≡ 0 → k ≢ back_of (old.nodes node) → k ≢ next_of (old.nodes node) → new.nodes k ≡ old.nodes k
  -- a fresh node comes from the map, and a node that is emptied goes back there
  pub used : (k : ℕ) → bit (new.used k) + times k (node ∷ []) ≡ bit (old.used k) + times k (parts_of count node fresh)
  pub free : new.shape.free + count ≡ old.shape.free + 1
  pub shape : new.shape ≡ with_free old.shape new.shape.free
  pub same : SameStore old new
  -- a node is split only where its records don't fit into it
  pub split : count ≡ 2 → node_room old.shape.node_size < taken (edited old node place removed put)
  -- where each record has five bytes or more, the records of both halves have a sixth of the node
  pub sixth : count ≡ 2 → ((k : ℕ) → k < length (edited old node place removed put) → 5 ≤ length (slice_index_or (edited old node place removed put) k []))
      → (k : ℕ) → k < 2 → HasSixth (new.nodes (slice_index (parts_of count node fresh) k))
  -- what is handed on
  pub handed : records_on count desk ≡ map (λ n. record_for new.nodes n) (parts_of count node fresh)
  pub kept : changed ≡ false → (count ≡ 1) × (record_for new.nodes node ≡ record_for old.nodes node)
  pub ends : MovesEnds height node (parts_of count node fresh) (back_of (old.nodes node)) (next_of (old.nodes node)) before after
