-- That the trees of a sound volume are such as weights ask for, and that what a cut step counts suffices for its edit.
use Rattle.std.specs.Prelude.{◌≡◌, ◌<◌, ◌≤◌, ℕ, ◌+◌, ◌*◌, min, Bool, IsTrue, List, [], ◌∷◌}
use Rattle.jnl_format.specs.Recovery.{Content, header_of_volume}
use Rattle.btree_node.specs.Store.{Store, HasRoom, IsWellFormed}
use Rattle.btree_edit.specs.Editing.{CostsAtMost, edit_writes}
use Rattle.hfs_volume.specs.Content.{has_attributes, volume_of}
use Rattle.hfs_volume.specs.Nodes.{HasTrees}
use Rattle.hfs_volume.specs.Forks.{parts_for}
use Rattle.hfs_volume.specs.Cost.{node_sectors, tree_at}
use Rattle.hfs_volume.specs.Weight.{room_with, cut_cost}
use Rattle.hfs_volume.specs.declared.cost.Cost.TheVariants as cost
use Rattle.hfs_volume.specs.declared.cost.Room.{Room}
use Rattle.hfs_volume.specs.declared.cost.TreeCost.{TreeCost}
use Rattle.tree_weights.specs.Weights.{HoldsThree, key_at}

-- A node of each of a volume's trees holds three index records with the longest keys; of the attributes file, where there is one.
abbrev pub TreesHoldThree : Type 0
TreesHoldThree =
    (content : Content) (capacity place : ℕ) (free : List Bool) → HasTrees content → place < 3 → (place ≡ 2 → IsTrue (has_attributes (header_of_volume content)))
    → HoldsThree (key_at place) (tree_at (room_with capacity free (volume_of content)) place)

-- ---- cut steps

-- the sectors that a cut step counts for the extents tree: those of an edit's nodes, or of all nodes that there are
abbrev pub cut_tree_load : TreeCost → ℕ
cut_tree_load tree = node_sectors tree * min (edit_writes tree.depth) tree.nodes

-- a store holds the tree with these numbers
pub record IsHeld (tree : TreeCost) (store : Store) : Type 0 where
  pub node_size : store.shape.node_size ≡ tree.node_size
  pub depth : store.shape.depth ≡ tree.depth
  pub total : store.shape.total ≡ tree.nodes

-- Where the cost of a cut step is a load, the journal holds it, no tree grows, and it is the sum of its parts: the volume header, a record of the
-- catalog, the sectors of the bitmap, and the extents tree.
abbrev pub CutSaysEnough : Type 0
CutSaysEnough =
    (room : Room) (load : ℕ) (grow : List ℕ) → cut_cost room ≡ cost.Load load grow
    → (load ≤ room.capacity) × (grow ≡ 0 ∷ 0 ∷ 0 ∷ []) × (load ≡ 1 + node_sectors (tree_at room 1) + min (parts_for room.total 4096) 24 + cut_tree_load (tree_at room 0))

-- Where so many sectors may be put as it counts for the extents tree, there is room to write what one edit writes: all that an edit asks for which
-- removes or replaces a record.
abbrev pub CutsHaveRoom : Type 0
CutsHaveRoom =
    (tree : TreeCost) (store : Store) → IsWellFormed store → IsHeld tree store → cut_tree_load tree ≤ store.sectors_left → HasRoom (edit_writes store.shape.depth) store

-- An edit that takes no free node puts no more sectors than it counts.
abbrev pub CutsTakeTheirLoad : Type 0
CutsTakeTheirLoad =
    (tree : TreeCost) (old new : Store) → IsWellFormed old → IsHeld tree old → CostsAtMost (edit_writes old.shape.depth) 0 old new → old.sectors_left ≤ new.sectors_left + cut_tree_load tree
