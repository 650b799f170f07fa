-- That what the load of a command counts for its edits suffices: the depth, the free nodes and the writes of each tree.
use Rattle.std.specs.Prelude.{◌≡◌, ◌⊎◌, ◌≢◌, ◌<◌, ◌≤◌, ℕ, zero, suc, ◌+◌, ◌-◌, ◌*◌, ◌^◌, ◌||◌, Bool, false, IsTrue, List, slice_index}
use Rattle.btree_node.specs.Store.{Store, IsWellFormed, SameStore}
use Rattle.btree_edit.specs.Edits.{GoesNoDeeper, EditRoom, TakesAtMost}
use Rattle.hfs_language.specs.declared.command.Command.{Command}
use Rattle.hfs_model.specs.declared.plain.PlainTree.{PlainTree}
use Rattle.hfs_model.specs.Step.{only_reads}
use Rattle.hfs_volume.specs.Content.{VolumeState}
use Rattle.hfs_volume.specs.Cost.{depth_of, rises, need, growth, new_maps, growth_writes, tree_load, node_sectors, is_too_deep, extents_key, catalog_key, attributes_key, tree_at, plan_of, growth_blocks, load_of, cost_of}
use Rattle.hfs_volume.specs.Weight.{changes_nothing, edits_of, data_of, needs_for, needs_cut, room_with, values_of, weight_with, with_values}
use Rattle.hfs_volume.specs.declared.cost.Cost.TheVariants as cost
use Rattle.hfs_volume.specs.declared.cost.Needs.{Needs}
use Rattle.hfs_volume.specs.declared.cost.Room.{Room}
use Rattle.hfs_volume.specs.declared.cost.TreeCost.{TreeCost}

-- ---- one tree

-- three records with the longest keys, at least, fit into an index node
abbrev pub HoldsThree : ℕ → TreeCost → Type 0
HoldsThree key tree = 3 * (key + 8) ≤ tree.node_size - 16

-- how deep so many edits can make a tree
abbrev pub deepest_of : ℕ → TreeCost → ℕ → ℕ
deepest_of key tree edits = depth_of tree + 1 + rises key tree edits

-- A store holds the tree with these numbers after it grew by so many nodes. The new map nodes among them aren't free.
pub record HasGrown (tree : TreeCost) (more : ℕ) (store : Store) : Type 0 where
  pub node_size : store.shape.node_size ≡ tree.node_size
  pub depth : store.shape.depth ≡ tree.depth
  pub records : store.shape.leaf_records ≡ tree.records
  pub total : store.shape.total ≡ tree.nodes + more
  pub free : tree.unused + (more - new_maps tree more) ≤ store.shape.free

-- So many nodes were written where the tree grew: no more than its load counts, and no node that is still unwritten.
pub record IsWrittenByGrowth (tree : TreeCost) (more nodes : ℕ) (store : Store) : Type 0 where
  pub few : nodes ≤ growth_writes tree more
  pub others : store.unwritten + nodes ≤ tree.nodes + more

-- Edits raise the root once at first, and then once for as many edits as fill it with the longest keys.
abbrev pub GoAsDeepAsCounted : Type 0
GoAsDeepAsCounted =
    (key edits more : ℕ) (tree : TreeCost) (store : Store) → IsTrue store.tells → HoldsThree key tree → HasGrown tree more store → GoesNoDeeper edits key (deepest_of key tree edits) store

-- The free nodes and those by which a tree grows, less the new map nodes, are as many as its edits may take.
abbrev pub GrowsByEnough : Type 0
GrowsByEnough =
    (block key edits : ℕ) (tree : TreeCost) → HoldsThree key tree → need key tree edits ≤ tree.unused + (growth block key tree edits - new_maps tree (growth block key tree edits))

-- A tree that has grown as the load says has room for its edits, where they aren't too many for it, and where as many sectors may be put as the
-- load counts for this tree, less those that the growth put.
abbrev pub EditsHaveRoom : Type 0
EditsHaveRoom =
    (block key edits written : ℕ) (tree : TreeCost) (store : Store) → IsTrue store.tells → IsWellFormed store → HoldsThree key tree → tree.records < 2 ^ 32 → is_too_deep key tree edits ≡ false
    → HasGrown tree (growth block key tree edits) store → IsWrittenByGrowth tree (growth block key tree edits) written store
    → tree_load key tree edits (growth block key tree edits) ≤ store.sectors_left + written * node_sectors tree → EditRoom edits key store

-- What the edits take of the sectors that may be put, with those that the growth put, is no more than the load counts for this tree.
abbrev pub EditsTakeTheirLoad : Type 0
EditsTakeTheirLoad =
    (key edits more written : ℕ) (tree : TreeCost) (old new : Store) → IsTrue old.tells → HoldsThree key tree → HasGrown tree more old → IsWrittenByGrowth tree more written old → SameStore old new → TakesAtMost edits key old new
    → old.sectors_left + written * node_sectors tree ≤ new.sectors_left + tree_load key tree edits more

-- ---- commands

-- A load says that nothing is missing: ids, depth, a place for one more extent of the extents file, blocks, a run for all of them where a tree
-- grows, and the capacity of the journal.
pub record IsAfforded (needs : Needs) (room : Room) (load : ℕ) (grow : List ℕ) : Type 0 where
  pub ids : room.next_id + needs.ids ≤ 4294967295
  pub extents : is_too_deep extents_key (tree_at room 0) (slice_index (plan_of needs room).edits 0) ≡ false
  pub catalog : is_too_deep catalog_key (tree_at room 1) (slice_index (plan_of needs room).edits 1) ≡ false
  pub attributes : is_too_deep attributes_key (tree_at room 2) (slice_index (plan_of needs room).edits 2) ≡ false
  pub extents_fit : (slice_index (plan_of needs room).grow 0 ≡ 0) ⊎ ((tree_at room 0).extents ≢ 8)
  pub blocks : needs.new_blocks + growth_blocks (plan_of needs room) room ≤ room.free
  pub in_one_run : (growth_blocks (plan_of needs room) room ≡ 0) ⊎ (needs.new_blocks + growth_blocks (plan_of needs room) room ≤ room.longest)
  pub sectors : load ≡ load_of needs room (plan_of needs room)
  pub within : load ≤ room.capacity
  pub grows : grow ≡ (plan_of needs room).grow

-- Where the cost is a load, no resource is missing: the trees aren't too deep, and blocks, the longest run and the sectors of a transaction suffice.
abbrev pub LoadSaysEnough : Type 0
LoadSaysEnough = (needs : Needs) (room : Room) (load : ℕ) (grow : List ℕ) → cost_of needs room ≡ cost.Load load grow → IsAfforded needs room load grow

-- So does the weight of a command that changes something and needs no cut step before: what it needs are its edits, its data and what it does to values.
abbrev pub WeightSaysEnough : Type 0
WeightSaysEnough =
    (capacity : ℕ) (free : List Bool) (volume : VolumeState) (tree : PlainTree) (asked : Command) (load : ℕ) (grow : List ℕ) → (only_reads asked || changes_nothing tree asked) ≡ false → needs_cut volume (data_of tree asked) ≡ false
    → weight_with capacity free volume tree asked ≡ cost.Load load grow → IsAfforded (with_values free (values_of volume tree asked) (needs_for free volume (edits_of tree asked) (data_of tree asked))) (room_with capacity free volume) load grow

-- the longest keys of the trees of extents, catalog and attributes, in this order
abbrev pub key_at : ℕ → ℕ
key_at zero = extents_key
key_at (suc zero) = catalog_key
key_at (suc (suc place)) = attributes_key

-- the sectors that the load counts for one of the three trees
abbrev pub load_at : Needs → Room → ℕ → ℕ
load_at needs room place = tree_load (key_at place) (tree_at room place) (slice_index (plan_of needs room).edits place) (slice_index (plan_of needs room).grow place)

-- Each of the three trees, once it has grown as the load says, has room for its edits.
abbrev pub CommandsHaveRoom : Type 0
CommandsHaveRoom =
    (needs : Needs) (room : Room) (load : ℕ) (grow : List ℕ) → IsAfforded needs room load grow
    → (place written : ℕ) (store : Store) → place < 3 → IsTrue store.tells → IsWellFormed store → HoldsThree (key_at place) (tree_at room place) → (tree_at room place).records < 2 ^ 32
    → HasGrown (tree_at room place) (slice_index grow place) store → IsWrittenByGrowth (tree_at room place) (slice_index grow place) written store
    → load_at needs room place ≤ store.sectors_left + written * node_sectors (tree_at room place) → EditRoom (slice_index (plan_of needs room).edits place) (key_at place) store

-- The loads of the three trees, of the records that are updated in place and of the volume header are parts of the load.
abbrev pub LoadIsOfParts : Type 0
LoadIsOfParts =
    (needs : Needs) (room : Room) (load : ℕ) (grow : List ℕ) → IsAfforded needs room load grow
    → 1 + needs.updates * node_sectors (tree_at room 1) + load_at needs room 0 + load_at needs room 1 + load_at needs room 2 ≤ load
