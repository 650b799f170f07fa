-- The sizes of volumes and nodes for which costs are counted.
use Rattle.std.specs.Prelude.{ℕ, ◌+◌, ◌-◌, ◌*◌, ◌/◌, ◌^◌, ◌≡◌, ◌<◌, ◌≤◌, List, slice_index}
use Rattle.hfs_volume.specs.declared.cost.Needs.{Needs}
use Rattle.hfs_volume.specs.declared.cost.Room.{Room}
use Rattle.hfs_volume.specs.declared.cost.TreeCost.{TreeCost}
use Rattle.hfs_volume.specs.Cost.{Plan, need}
use Rattle.hfs_volume.specs.Weight.{Data}

-- a tree's nodes have so many bytes at least, and 32,768 at most
pub record IsNodeSize (bytes : ℕ) (tree : TreeCost) : Type 0 where
  pub least : bytes ≤ tree.node_size
  pub most : tree.node_size ≤ 32768

-- an index node of a tree takes three records at least with keys of this length
pub record IsWide (key : ℕ) (tree : TreeCost) : Type 0 where
  pub least : 512 ≤ tree.node_size
  pub most : tree.node_size ≤ 32768
  pub records : 3 ≤ (tree.node_size - 16) / (key + 8)

-- a volume has blocks from 512 bytes up to 65,536, and 2^40 bytes at most; no more blocks are free than it has
pub record IsVolume (room : Room) : Type 0 where
  pub least : 512 ≤ room.block
  pub most : room.block ≤ 65536
  pub bytes : room.total * room.block ≤ 2 ^ 40
  pub free : room.free ≤ room.total
  pub longest : room.longest ≤ room.total

-- each number that a command needs is below 2^32
pub record AreSmall (needs : Needs) : Type 0 where
  pub extents : slice_index needs.edits 0 < 2 ^ 32
  pub catalog : slice_index needs.edits 1 < 2 ^ 32
  pub attributes : slice_index needs.edits 2 < 2 ^ 32
  pub updates : needs.updates < 2 ^ 32
  pub new_blocks : needs.new_blocks < 2 ^ 32
  pub old_blocks : needs.old_blocks < 2 ^ 32
  pub runs : needs.runs < 2 ^ 32

-- a tree with so many edits grows by so many nodes, which are few beside the nodes that the edits need
pub record IsGrown (block key : ℕ) (tree : TreeCost) (edits more : ℕ) : Type 0 where
  pub wide : 0 < edits → IsWide key tree
  pub few : edits ≤ 2 ^ 33
  pub bound : more ≤ 2 * need key tree edits + 2 ^ 32 + block + 3
  pub none : edits ≡ 0 → more ≡ 0

-- the same, where the tree isn't too deep: so the nodes are bounded by a number
pub record IsLoaded (key : ℕ) (tree : TreeCost) (edits more : ℕ) : Type 0 where
  pub wide : 0 < edits → IsWide key tree
  pub few : edits ≤ 2 ^ 33
  pub bound : more ≤ 2 ^ 40
  pub none : edits ≡ 0 → more ≡ 0

-- the edits of the three trees, and the nodes by which each grows
abbrev pub plan : List ℕ → List ℕ → Plan
plan edits grow = record { edits = edits; grow = grow }

-- data of a file of so many bytes, which has so many after it, where those from one place up to another are new
abbrev pub data_put : ℕ → ℕ → ℕ → ℕ → Data
data_put old_size new_size from end = record { id = 0; old_size = old_size; new_size = new_size; from = from; end = end }
