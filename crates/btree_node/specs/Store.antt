-- A store of the nodes of one tree, as a contract sees it.
use Rattle.std.specs.Prelude.{◌≡◌, ◌≢◌, ◌<◌, ◌≤◌, ℕ, ◌+◌, ◌-◌, ◌*◌, ◌/◌, ◌^◌, Bool, false, not, IsTrue, List, min, Result, OnErr}
use Rattle.std.specs.List.{count_by, range_with_len}
use Rattle.btree_node.specs.Node.{IsNodeSize}
use Rattle.btree_node.specs.declared.store.TreeShape.{TreeShape}

-- All that a contract sees of it.
pub record Store : Type 0 where
  -- whether it tells the bytes of its nodes and which are in use
  pub tells : Bool
  -- the references that it holds, by their ghost names
  pub names : List ℕ
  pub shape : TreeShape
  -- the numbers that the header node says
  pub header : TreeShape
  -- the bytes of each node
  pub nodes : ℕ → List ℕ
  -- whether the map has a node's bit
  pub used : ℕ → Bool
  -- the header node and the map nodes
  pub reserved : ℕ → Bool
  -- written since the last commit
  pub written : ℕ → Bool
  -- how many nodes aren't
  pub unwritten : ℕ
  -- how many nodes, and how many sectors, may be written for the first time since the last commit
  pub writes_left : ℕ
  pub sectors_left : ℕ
  pub loads : ℕ
  pub faults : ℕ

-- the sectors of one node
abbrev pub node_sectors : Store → ℕ
node_sectors store = store.shape.node_size / 512

-- how the numbers of every store go together
pub record IsWellFormed (store : Store) : Type 0 where
  pub node_size : IsNodeSize store.shape.node_size
  pub total : store.shape.total < 2 ^ 32
  pub free : store.shape.free ≤ store.shape.total
  pub unwritten : store.unwritten ≡ count_by (λ n. not (store.written n)) (range_with_len 0 store.shape.total)
  pub writes_left : store.writes_left ≡ store.sectors_left / node_sectors store

-- the sectors of all nodes that weren't written since the last commit
unfoldable pub unwritten_sectors : Store → ℕ
unwritten_sectors store = store.unwritten * node_sectors store

-- there is room to write so many nodes, or all that aren't written yet
abbrev pub HasRoom : ℕ → Store → Type 0
HasRoom many store = min many store.unwritten ≤ store.writes_left

-- one more, or the last value of a count
abbrev pub next_count : ℕ → ℕ
next_count n = min (n + 1) (2 ^ 64 - 1)

-- the count of faults hasn't fallen, and where the call failed it rose or stands at its last value
pub record HasCause {T E : Type 0} (before now : ℕ) (result : Result T E) : Type 0 where
  pub later : before ≤ now
  pub failed : OnErr result (next_count before ≤ now)

-- what no call changes
pub record SameStore (old new : Store) : Type 0 where
  pub tells : new.tells ≡ old.tells
  pub names : new.names ≡ old.names
  pub node_size : new.shape.node_size ≡ old.shape.node_size
  pub total : new.shape.total ≡ old.shape.total
  pub reserved : (n : ℕ) → new.reserved n ≡ old.reserved n

-- the nodes of the tree and the map are as they were
pub record SameNodes (old new : Store) : Type 0 where
  pub nodes : (n : ℕ) → new.nodes n ≡ old.nodes n
  pub used : (n : ℕ) → new.used n ≡ old.used n
  pub header : new.header ≡ old.header

-- the nodes that a tree can have are as they were, but for this one
pub record ChangesOnly (node : ℕ) (bytes : List ℕ) (old new : Store) : Type 0 where
  pub here : new.nodes node ≡ bytes
  pub others : (n : ℕ) → n ≢ node → new.nodes n ≡ old.nodes n
  pub used : (n : ℕ) → new.used n ≡ old.used n
  pub header : new.header ≡ old.header

-- the nodes that a tree can have are as they were, and so is the map but for one node
pub record MapsOnly (node : ℕ) (bit : Bool) (old new : Store) : Type 0 where
  pub nodes : (n : ℕ) → old.reserved n ≡ false → new.nodes n ≡ old.nodes n
  pub here : new.used node ≡ bit
  pub others : (n : ℕ) → n ≢ node → new.used n ≡ old.used n

-- the nodes that a tree can have are as they were, and so is the map; the header node says the shape
pub record ShapesOnly (old new : Store) : Type 0 where
  pub nodes : (n : ℕ) → old.reserved n ≡ false → new.nodes n ≡ old.nodes n
  pub used : (n : ℕ) → new.used n ≡ old.used n
  pub header : new.header ≡ new.shape

-- nothing was written
pub record SameRoom (old new : Store) : Type 0 where
  pub written : (n : ℕ) → new.written n ≡ old.written n
  pub unwritten : new.unwritten ≡ old.unwritten
  pub writes_left : new.writes_left ≡ old.writes_left
  pub sectors_left : new.sectors_left ≡ old.sectors_left
  pub sectors : unwritten_sectors new ≡ unwritten_sectors old

-- at most so many nodes were written for the first time since the last commit, and each took at most its sectors
pub record Writes (most : ℕ) (old new : Store) : Type 0 where
  pub still : (n : ℕ) → IsTrue (old.written n) → IsTrue (new.written n)
  pub fewer : new.unwritten ≤ old.unwritten
  pub some : old.unwritten ≤ new.unwritten + most
  pub left : old.writes_left + new.unwritten ≤ new.writes_left + old.unwritten
  pub sectors : old.sectors_left + unwritten_sectors new ≤ new.sectors_left + unwritten_sectors old

-- the shape with another number of free nodes
abbrev pub with_free : TreeShape → ℕ → TreeShape
with_free shape n = record shape { free = n }
