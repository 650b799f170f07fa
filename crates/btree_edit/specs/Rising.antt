-- What an edit changes on its way from a leaf to the root.
use Rattle.std.specs.Prelude.{◌≡◌, ◌≢◌, ◌⊎◌, ◌<◌, ◌≤◌, ℕ, zero, suc, ◌+◌, ◌-◌, ◌*◌, ◌/◌, ◌^◌, Bool, true, false, List, [], ◌∷◌, length, map, take, slice_index, slice_index_or}
use Rattle.std.specs.declared.cmp.Ordering.{Ordering}
use Rattle.btree_node.specs.Node.{items}
use Rattle.btree_node.specs.Levels.{entries, key_of, pair_of, record_for, splice, Ascends}
use Rattle.btree_node.specs.Store.{Store, SameStore}
use Rattle.btree_node.specs.Tree.{level_of, entries_of, pairs_of, IsTree}
use Rattle.btree_node.specs.declared.store.TreeShape.{TreeShape}
use Rattle.btree_edit.specs.LevelEdit.{bit, times, head_or, last_or, node_room, parts_of, records_on}
use Rattle.btree_edit.specs.Climb.{LevelLists, IsTreeBut}
use Rattle.btree_edit.specs.Way.{stop_at, way_place, IsWay}
use Rattle.btree_edit.specs.declared.desk.Desk.{Desk}
use Rattle.btree_edit.specs.declared.desk.PathStep.{PathStep}

-- how many records stand in the leaves before the leaf of a way
abbrev pub leaf_start : Store → List PathStep → ℕ
leaf_start store path = length (entries store.nodes (take (way_place store path (store.shape.depth - 1)) (level_of store (store.shape.depth - 1))))

-- the records of the leaves, with others in place of some of the leaf of a way
abbrev pub leaves_edited : Store → List PathStep → ℕ → Bool → List (List ℕ) → List (List ℕ)
leaves_edited store path at removed put =
    splice (entries_of store (store.shape.depth - 1)) (leaf_start store path + at) (leaf_start store path + (at + bit removed)) put

-- all keys have one length
abbrev pub AreOfOneLength : (List ℕ → Type 0) → Type 0
AreOfOneLength is_key = (a b : List ℕ) → is_key a → is_key b → length a ≡ length b

-- in a tree, an edit of one record of the leaf of a way, with nodes to spare for each level, or one that needs none
pub record CanClimb (is_key : List ℕ → Type 0) (cmp : List ℕ → List ℕ → Ordering) (max : ℕ) (store : Store) (path : List PathStep) (at : ℕ) (removed : Bool) (put : List (List ℕ)) (spare : ℕ) : Type 0 where
  pub tree : IsTree is_key cmp store
  pub small : store.shape.total ≤ 2 ^ 32
  pub some : 0 < store.shape.depth
  pub way : IsWay store path
  pub inside : at + bit removed ≤ length (items (store.nodes (stop_at path (store.shape.depth - 1)).node))
  pub one : length put ≤ 1
  pub keys : (k : ℕ) → k < length put → is_key (key_of (slice_index_or put k []))
  pub short : (k : ℕ) → k < length put → length (slice_index_or put k []) ≤ store.shape.node_size / 2 - 10
  pub ascends : Ascends cmp (leaves_edited store path at removed put)
  -- three index records with the longest keys fit into a node
  pub wide : 3 * (max + 8) ≤ node_room store.shape.node_size
  pub enough : store.shape.depth + 1 ≤ spare ⊎ ((put ≡ []) × AreOfOneLength is_key)

-- What an edit does to the records of the root, where this is the depth and the root then.
pub record BoundsRoot (max : ℕ) (old new : Store) (depth root : ℕ) : Type 0 where
  -- an index root that stays has at most one record more
  pub grown : 1 < old.shape.depth → depth ≡ old.shape.depth → length (items (new.nodes root)) ≤ length (items (old.nodes old.shape.root)) + 1
  -- a root above the old one has two records
  pub two : 0 < old.shape.depth → old.shape.depth < depth → length (items (new.nodes root)) ≡ 2
  -- it comes above an index root only where one record more of the longest doesn't fit beside as many of them as there are
  pub over : 1 < old.shape.depth → old.shape.depth < depth → node_room old.shape.node_size < (max + 8) * (length (items (old.nodes old.shape.root)) + 1)

-- Of so many levels that were changed, the highest that was split has two nodes or more, and each level above it took at most three of the writes that there were for it.
pub record IsThrifty (depth : ℕ) (levels : LevelLists) (done budget : ℕ) : Type 0 where
  pub split : ℕ
  pub low : split ≤ done
  pub twin : 0 < split → 2 ≤ length (levels (depth - split))
  pub enough : 4 * depth ≤ budget + split + 3 * done

-- an index root has two records or more
abbrev pub RootHasTwoChildren : Store → ℕ → ℕ → Type 0
RootHasTwoChildren store depth root = 1 < depth → 2 ≤ length (items (store.nodes root))

-- A climb makes these the records of the leaves, and keeps the rules of a tree below the nodes that hold what its root held: none, the root, or the root and a fresh node.
pub record Climbs (is_key : List ℕ → Type 0) (cmp : List ℕ → List ℕ → Ordering) (max : ℕ) (old new : Store) (records : List (List ℕ)) (after : TreeShape) (count left : ℕ) (desk : Desk) (budget : ℕ) : Type 0 where
  pub levels : LevelLists
  pub fresh : ℕ
  pub but : IsTreeBut is_key cmp new old.shape.depth levels 0 0 []
  pub most : count ≤ 2
  pub top : levels 0 ≡ parts_of count old.shape.root fresh
  pub made : entries new.nodes (levels (old.shape.depth - 1)) ≡ records
  pub handed : count ≡ 2 → records_on count desk ≡ map (λ n. record_for new.nodes n) (levels 0)
  pub spare : count ≡ 2 → 0 < left
  pub first : after.first ≡ head_or (levels (old.shape.depth - 1)) 0
  pub last : after.last ≡ last_or (levels (old.shape.depth - 1)) 0
  pub root : after.root ≡ old.shape.root
  pub depth : after.depth ≡ old.shape.depth
  -- the root has at most one record more, or its records and one more of the longest didn't fit
  pub grown : 1 < old.shape.depth → count ≡ 1 → length (items (new.nodes old.shape.root)) ≤ length (items (old.nodes old.shape.root)) + 1
  pub over : 1 < old.shape.depth → count ≡ 2 → node_room old.shape.node_size < (max + 8) * (length (items (old.nodes old.shape.root)) + 1)
  pub thrift : IsThrifty old.shape.depth levels old.shape.depth budget
  -- a node that stands alone in its level was in use before
  pub alone : (j : ℕ) → j < old.shape.depth → length (levels j) ≡ 1 → old.used (slice_index (levels j) 0) ≡ true
  pub same : SameStore old new
  -- nodes that were free and are free stay as they were
  pub others : (n : ℕ) → old.reserved n ≡ false → old.used n ≡ false → new.used n ≡ false → new.nodes n ≡ old.nodes n

-- the records of the lowest of so many levels
abbrev pub leaf_records : Store → LevelLists → ℕ → List (List ℕ)
leaf_records store levels zero = []
leaf_records store levels (suc above) = entries store.nodes (levels above)

-- The nodes are a tree with these records in its leaves, once its header has these numbers.
pub record Rises (is_key : List ℕ → Type 0) (cmp : List ℕ → List ℕ → Ordering) (max : ℕ) (old new : Store) (records : List (List ℕ)) (after : TreeShape) : Type 0 where
  pub levels : LevelLists
  pub but : IsTreeBut is_key cmp new after.depth levels 0 0 []
  pub top : 0 < after.depth → levels 0 ≡ after.root ∷ []
  pub made : leaf_records new levels after.depth ≡ records
  pub first : 0 < after.depth → after.first ≡ head_or (levels (after.depth - 1)) 0
  pub last : 0 < after.depth → after.last ≡ last_or (levels (after.depth - 1)) 0
  pub bounds : BoundsRoot max old new after.depth after.root
  pub none : after.depth ≡ 0 → (after.root ≡ 0) × (after.first ≡ 0) × (after.last ≡ 0)
  pub same : SameStore old new
  pub others : (n : ℕ) → old.reserved n ≡ false → old.used n ≡ false → new.used n ≡ false → new.nodes n ≡ old.nodes n

-- The same, while roots with one record are given back, of which so many more may be: a node that stands alone in its level was in use before, and a level that was split isn't passed.
pub record IsLowering (is_key : List ℕ → Type 0) (cmp : List ℕ → List ℕ → Ordering) (max : ℕ) (old new : Store) (records : List (List ℕ)) (after : TreeShape) (rest : ℕ) : Type 0 where
  pub rises : Rises is_key cmp max old new records after
  pub low : after.depth ≤ old.shape.depth
  pub some : 0 < after.depth
  pub split : ℕ
  pub twin : 0 < split → 2 ≤ length (rises.levels (after.depth - split))
  pub enough : after.depth ≤ rest + split
  pub alone : (j : ℕ) → j < after.depth → length (rises.levels j) ≡ 1 → old.used (slice_index (rises.levels j) 0) ≡ true

-- A tree with these records in its leaves; nodes that were free and are free stay as they were.
pub record MakesTree (is_key : List ℕ → Type 0) (cmp : List ℕ → List ℕ → Ordering) (old new : Store) (records : List (List ℕ)) : Type 0 where
  pub tree : IsTree is_key cmp new
  pub pairs : pairs_of new ≡ map pair_of records
  -- a tree without records has no level
  pub filled : 0 < new.shape.depth → 0 < length (pairs_of new)
  pub others : (n : ℕ) → old.reserved n ≡ false → old.used n ≡ false → new.used n ≡ false → new.nodes n ≡ old.nodes n

-- a store in which no node is the tree's
abbrev pub IsBare : (List ℕ → Type 0) → (List ℕ → List ℕ → Ordering) → Store → Type 0
IsBare is_key cmp store = IsTreeBut is_key cmp store 0 (λ j. []) 0 0 []

-- a record that a leaf may have
pub record IsLeafRecord (is_key : List ℕ → Type 0) (store : Store) (bytes : List ℕ) : Type 0 where
  pub key : is_key (key_of bytes)
  pub short : length bytes ≤ store.shape.node_size / 2 - 10

-- a fresh node with these bytes
pub record TakesNode (old new : Store) (node : ℕ) (bytes : List ℕ) : Type 0 where
  pub here : new.nodes node ≡ bytes
  pub low : node < old.shape.total
  pub others : (n : ℕ) → old.reserved n ≡ false → n ≢ node → new.nodes n ≡ old.nodes n
  pub used : (n : ℕ) → bit (new.used n) ≡ bit (old.used n) + times n (node ∷ [])
  pub free : new.shape.free + 1 ≡ old.shape.free
  pub same : SameStore old new
