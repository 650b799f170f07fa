-- What a volume has, and what a command takes of it.
use Rattle.std.specs.Prelude.{ℕ, ◌+◌, ◌-◌, ◌*◌, ◌/◌, ◌==◌, ◌&&◌, ◌||◌, nat_lt, min, Bool, false, not, List, [], ◌∷◌, length, map, Option, Some, None, Result, Ok, Err, if◌then◌else◌, sum, slice_index}
use Rattle.hfs_model.specs.declared.plain.PlainAttribute.{PlainAttribute}
use Rattle.hfs_volume.specs.Values.{longest_inline, value_extents, value_blocks}
use Rattle.std.specs.List.{range_with_len}
use Rattle.hx_bytes.specs.declared.extents.Extent.{Extent}
use Rattle.hx_bytes.specs.declared.extents.ForkRecord.{ForkRecord}
use Rattle.fork_map.specs.Blocks.{blocks_of}
use Rattle.flag_rows.specs.Bits.{count_set}
use Rattle.flag_rows.specs.Runs.{runs_of, longest_first, longest_of, fewest_of}
use Rattle.cat_records.specs.declared.record.CatRecord.{CatRecord}
use Rattle.cat_records.specs.declared.record.CatRecord.TheVariants.{Folder, File, Thread}
use Rattle.hfs_language.specs.declared.command.Command.{Command}
use Rattle.hfs_language.specs.declared.command.Command.TheVariants as command
use Rattle.hfs_language.specs.declared.refusal.Refusal.{Refusal}
use Rattle.hfs_language.specs.declared.refusal.Refusal.TheVariants as refusal
use Rattle.hfs_language.specs.declared.reply.Gauge.{Gauge}
use Rattle.hfs_language.specs.declared.reply.TreeGauge.{TreeGauge}
use Rattle.hfs_volume.specs.declared.cost.Cost.{Cost}
use Rattle.hfs_volume.specs.declared.cost.Cost.TheVariants as cost
use Rattle.hfs_volume.specs.declared.cost.Needs.{Needs}
use Rattle.hfs_volume.specs.declared.cost.Room.{Room}
use Rattle.hfs_volume.specs.declared.cost.TreeCost.{TreeCost}
use Rattle.hfs_volume.specs.declared.cost.ValueChange.{ValueChange}
use Rattle.hfs_model.specs.declared.plain.PlainEntry.{PlainEntry}
use Rattle.hfs_model.specs.declared.plain.PlainNode.{PlainNode}
use Rattle.hfs_model.specs.declared.plain.PlainTree.{PlainTree}
use Rattle.hfs_model.specs.Plain.{names_of, node_at}
use Rattle.hfs_model.specs.Step.{Place, to_rm, to_rmdir, to_mv, to_link, to_file, only_reads, size_written, is_same_file, to_set, to_attribute}
use Rattle.hfs_volume.specs.Records.{Placed, Overflow, entry_of}
use Rattle.hfs_volume.specs.Forks.{extents_of, parts_for, data_kind, extents_id, catalog_id, attributes_id}
use Rattle.hfs_volume.specs.Content.{VolumeState, TreeFacts, is_set, records_of, overflow_in_volume, has_attributes, attributes_of}
use Rattle.hfs_volume.specs.Cost.{cost_of, cost_or, load_refusal, overflow_records, no_tree, tree_at, node_sectors}

-- ---- what a volume has

-- for each block, whether it is free
unfoldable pub free_blocks : VolumeState → List Bool
free_blocks volume = map (λ block. not (is_set volume block)) (range_with_len 0 volume.head.total_blocks)

-- the runs of free blocks, longest first
abbrev pub free_runs : List Bool → List Extent
free_runs free = longest_first (runs_of free)

-- how many extents a file's data fork has in use
abbrev pub extents_in_use : VolumeState → ℕ → ForkRecord → ℕ
extents_in_use volume id fork = length (extents_of (overflow_in_volume volume) id data_kind fork)

-- the numbers of a tree that costs are counted from
abbrev pub cost_of_tree : TreeFacts → ℕ → TreeCost
cost_of_tree tree extents = record {
  node_size = tree.shape.node_size;
  depth = tree.shape.depth;
  records = tree.shape.leaf_records;
  nodes = tree.shape.total;
  unused = tree.shape.free;
  map_bits = tree.map_bits;
  extents = extents;
}

-- the trees of extents, catalog and attributes; a volume without an attributes file has an empty one without a node
abbrev pub trees_of : VolumeState → List TreeCost
trees_of volume =
    cost_of_tree volume.extents_tree (extents_in_use volume extents_id volume.head.extents_fork)
    ∷ cost_of_tree volume.catalog_tree (extents_in_use volume catalog_id volume.head.catalog_fork)
    ∷ (if has_attributes volume.head then cost_of_tree volume.attributes_tree (extents_in_use volume attributes_id volume.head.attributes_fork) else no_tree)
    ∷ []

-- what a volume has with these free blocks, over a journal whose transactions hold so many sectors
unfoldable pub room_with : ℕ → List Bool → VolumeState → Room
room_with capacity free volume = record {
  block = volume.head.block_size;
  total = volume.head.total_blocks;
  free = count_set free;
  longest = longest_of (runs_of free);
  capacity = capacity;
  next_id = volume.head.next_catalog_id;
  trees = trees_of volume;
}

-- what `df` tells of a tree
abbrev pub tree_gauge : TreeCost → TreeGauge
tree_gauge tree = record { depth = tree.depth; nodes = tree.nodes; unused = tree.unused }

-- the numbers that `df` tells
abbrev pub gauge_of : Room → Gauge
gauge_of room = record { block = room.block; total = room.total; free = room.free; longest = room.longest; capacity = room.capacity; trees = map tree_gauge room.trees }

-- ---- the data that a command writes

-- Where data goes: the size before and after, and the bytes that are new, from a place up to an end.
pub record Data : Type 0 where
  pub id : ℕ
  pub old_size : ℕ
  pub new_size : ℕ
  pub from : ℕ
  pub end : ℕ

-- the data of a `write` of some bytes, and of a `trunc` that makes a file longer
abbrev pub written_data : ℕ → ℕ → Result PlainNode Refusal → Option Data
written_data from long (Ok file) =
    if long == 0 then None
    else Some (record { id = file.id; old_size = length file.bytes; new_size = size_written (length file.bytes) from long; from = from; end = from + long })
written_data from long (Err why) = None

-- the data that a `trunc` to this size puts, where the file grows
abbrev pub grown_data : ℕ → Result PlainNode Refusal → Option Data
grown_data size (Ok file) =
    if nat_lt (length file.bytes) size then Some (record { id = file.id; old_size = length file.bytes; new_size = size; from = length file.bytes; end = size }) else None
grown_data size (Err why) = None

-- the data that a command puts into a file, where it puts some
abbrev pub data_of : PlainTree → Command → Option Data
data_of tree (command.Write path from value) = written_data from (length value) (to_file tree path)
data_of tree (command.Trunc path size) = grown_data size (to_file tree path)
data_of tree _ = None

-- whether data makes its file longer
abbrev pub grows : Data → Bool
grows put = nat_lt put.old_size put.new_size

-- the first block that is written
abbrev pub first_block : ℕ → Data → ℕ
first_block block put = min put.from put.old_size / block

-- the place behind the last one
abbrev pub end_block : ℕ → Data → ℕ
end_block block put = if grows put then parts_for put.new_size block else parts_for put.end block

-- how many new blocks it takes
abbrev pub new_blocks_of : ℕ → Data → ℕ
new_blocks_of block put = end_block block put - first_block block put

-- how many blocks the file has there already, each of which a new one replaces
abbrev pub old_blocks_of : ℕ → Data → ℕ
old_blocks_of block put = min (end_block block put) (parts_for put.old_size block) - first_block block put

-- ---- zero blocks

-- the new blocks of a `write` that lie wholly past the old size and before the value, and so hold zeros alone
abbrev pub zeros_before_value : ℕ → Option Data → ℕ
zeros_before_value block None = 0
zeros_before_value block (Some put) = put.from / block - parts_for put.old_size block

-- the new blocks of a `trunc` that lie wholly past the old size: they all hold zeros alone
abbrev pub zeros_up_to_size : ℕ → Option Data → ℕ
zeros_up_to_size block None = 0
zeros_up_to_size block (Some put) = parts_for put.new_size block - parts_for put.old_size block

-- how many of the new blocks of a command are zero blocks, which hold nothing but the zeros of a growth
abbrev pub zero_blocks : ℕ → PlainTree → Command → ℕ
zero_blocks block tree (command.Write path from value) = zeros_before_value block (written_data from (length value) (to_file tree path))
zero_blocks block tree (command.Trunc path size) = zeros_up_to_size block (grown_data size (to_file tree path))
zero_blocks block tree _ = 0

-- the most zero blocks that one step fills
abbrev pub most_zeros : ℕ
most_zeros = 1024

-- ---- the forks of a file

-- a fork of a file's record
abbrev pub file_fork : ℕ → Option Placed → Option ForkRecord
file_fork kind None = None
file_fork kind (Some placed) = fork_in placed.value
  where
    fork_in : CatRecord → Option ForkRecord
    fork_in (Folder folder) = None
    fork_in (File file) = if kind == data_kind then Some file.data_fork else Some file.resource_fork
    fork_in (Thread thread) = None

-- the extents in use of a fork, if there is one
abbrev pub extents_found : List Overflow → ℕ → ℕ → Option ForkRecord → List Extent
extents_found overflow id kind None = []
extents_found overflow id kind (Some fork) = extents_of overflow id kind fork

-- the extents in use of a fork of the file with this CNID
abbrev pub file_extents : VolumeState → ℕ → ℕ → List Extent
file_extents volume id kind = extents_found (overflow_in_volume volume) id kind (file_fork kind (entry_of (records_of volume) id))

-- the blocks of a fork of the file with this CNID
abbrev pub file_blocks : VolumeState → ℕ → ℕ → List ℕ
file_blocks volume id kind = blocks_of (file_extents volume id kind)

-- the fork of this kind has blocks past its size
abbrev pub has_surplus_in : ℕ → VolumeState → ℕ → ℕ → Bool
has_surplus_in kind volume id size = nat_lt (parts_for size volume.head.block_size) (length (file_blocks volume id kind))

-- the file has blocks past its size
abbrev pub has_surplus : VolumeState → ℕ → ℕ → Bool
has_surplus volume id size = has_surplus_in data_kind volume id size

-- ---- what a command needs

-- ids, edits of catalog and attributes, and records updated in place
pub record Edits : Type 0 where
  pub ids : ℕ
  pub catalog : ℕ
  pub attributes : ℕ
  pub updates : ℕ

-- the CNIDs that a command takes, its edits of the catalog and the attributes file, and its updates of records
abbrev pub edits : ℕ → ℕ → ℕ → ℕ → Edits
edits ids catalog attributes updates = record { ids = ids; catalog = catalog; attributes = attributes; updates = updates }

-- how many folders the first `ln` of a volume makes for itself: one, unless it is there
abbrev pub folders_made : PlainTree → ℕ
folders_made tree = if tree.has_private then 0 else 1

-- a file loses a name: one of several, its only one ever, or the last of several
abbrev pub rm_edits : PlainTree → Option PlainNode → Edits
rm_edits tree None = edits 0 0 0 0
rm_edits tree (Some file) =
    if nat_lt 1 (names_of tree file.id) then edits 0 2 0 4
    else if file.linked then edits 0 5 0 4
    else edits (folders_made tree) (3 + 2 * folders_made tree) 0 4

-- the edits of an `rm` of this entry; none where it is refused
abbrev pub rm_edits_at : PlainTree → Result PlainEntry Refusal → Edits
rm_edits_at tree (Ok entry) = rm_edits tree (node_at tree entry.id)
rm_edits_at tree (Err why) = edits 0 0 0 0

-- the edits of a `mv` over a file: the file loses the name, one of several, its only one ever, or the last of several, and the entry takes it
abbrev pub over_edits : PlainTree → Option PlainNode → Edits
over_edits tree None = edits 0 0 0 0
over_edits tree (Some file) =
    if nat_lt 1 (names_of tree file.id) then edits 0 5 0 6
    else if file.linked then edits 0 8 0 6
    else edits (folders_made tree) (6 + 2 * folders_made tree) 0 6

-- the edits of a `mv` to a place where this entry stands, if one does
abbrev pub place_edits : PlainTree → Option PlainEntry → Edits
place_edits tree None = edits 0 3 0 3
place_edits tree (Some other) = over_edits tree (node_at tree other.id)

-- the edits of a `mv`; none where it is refused
abbrev pub mv_edits : PlainTree → Result (PlainEntry × Place) Refusal → Edits
mv_edits tree (Ok pair) = place_edits tree pair.1.found
mv_edits tree (Err why) = edits 0 0 0 0

-- how many attributes a folder or file has
abbrev pub attribute_count : Option PlainNode → ℕ
attribute_count None = 0
attribute_count (Some node) = length node.attributes

-- the edits of an `rmdir`; none where it is refused
abbrev pub rmdir_edits : PlainTree → Result PlainEntry Refusal → Edits
rmdir_edits tree (Ok entry) = edits 0 2 (attribute_count (node_at tree entry.id)) 1
rmdir_edits tree (Err why) = edits 0 0 0 0

-- the edits of an `ln`; none where it is refused
abbrev pub ln_edits : {X : Type 0} → PlainTree → Result (PlainNode × X) Refusal → Edits
ln_edits tree (Ok pair) = if pair.0.linked then edits 1 2 0 4 else edits (2 + folders_made tree) (7 + 2 * folders_made tree) 0 4
ln_edits tree (Err why) = edits 0 0 0 0

-- the edits of a command that its step doesn't refuse
abbrev pub edits_of : PlainTree → Command → Edits
edits_of tree (command.Mkdir path) = edits 1 2 0 1
edits_of tree (command.Create path) = edits 1 2 0 1
edits_of tree (command.Rm path) = rm_edits_at tree (to_rm tree path)
edits_of tree (command.Rmdir path) = rmdir_edits tree (to_rmdir tree path)
edits_of tree (command.Mv from to) = mv_edits tree (to_mv tree from to)
edits_of tree (command.Ln from to) = ln_edits tree (to_link tree from to)
edits_of tree (command.Write path from value) = edits 0 0 0 1
edits_of tree (command.Trunc path size) = edits 0 0 0 1
edits_of tree (command.Chmod path mode) = edits 0 0 0 1
edits_of tree (command.SetAttr path name value) = edits 0 0 2 1
edits_of tree (command.DelAttr path name) = edits 0 0 1 1
edits_of tree _ = edits 0 0 0 0

-- the edits of the extents file where a fork of so many extents gets new blocks from so many runs
abbrev pub extents_edits : ℕ → ℕ → ℕ → ℕ
extents_edits extents runs blocks = if blocks == 0 then 0 else overflow_records extents + overflow_records (extents + 1 + runs)

-- what edits need, and data that goes into the fork of this kind of its file, where the blocks that are free are these
abbrev pub needs_in : ℕ → List Bool → VolumeState → Edits → Option Data → Needs
needs_in kind free volume many None =
    record { ids = many.ids; edits = 0 ∷ many.catalog ∷ many.attributes ∷ []; updates = many.updates; new_blocks = 0; old_blocks = 0; runs = 0 }
needs_in kind free volume many (Some put) =
    let blocks = new_blocks_of volume.head.block_size put in
    let runs = fewest_of blocks (free_runs free) in
    record {
      ids = many.ids;
      edits = extents_edits (length (file_extents volume put.id kind)) runs blocks ∷ many.catalog ∷ many.attributes ∷ [];
      updates = many.updates;
      new_blocks = blocks;
      old_blocks = old_blocks_of volume.head.block_size put;
      runs = runs;
    }

-- the same where the data goes into a data fork
abbrev pub needs_for : List Bool → VolumeState → Edits → Option Data → Needs
needs_for free volume many put = needs_in data_kind free volume many put

-- ---- the values of attributes

-- how many further records the value of this attribute has
abbrev pub further_records : VolumeState → ℕ → List ℕ → ℕ
further_records volume id name = overflow_records (length (value_extents (attributes_of volume) id name))

-- how many blocks it has
abbrev pub freed_blocks : VolumeState → ℕ → List ℕ → ℕ
freed_blocks volume id name = length (value_blocks (attributes_of volume) id name)

-- how many blocks a value of so many bytes takes: none where it is written into its record
abbrev pub blocks_for_value : ℕ → ℕ → ℕ
blocks_for_value block long = if nat_lt longest_inline long then parts_for long block else 0

-- the value of an attribute goes, and one with so many blocks comes
abbrev pub value_change : VolumeState → ℕ → List ℕ → ℕ → ValueChange
value_change volume id name blocks = record { records = further_records volume id name; freed = freed_blocks volume id name; blocks = blocks }

-- what a new value of so many bytes does to values: it takes the blocks that those need, and gives the old ones back; nothing where it is refused
abbrev pub set_value : VolumeState → List ℕ → ℕ → Result PlainNode Refusal → Option ValueChange
set_value volume name long (Ok node) = Some (value_change volume node.id name (blocks_for_value volume.head.block_size long))
set_value volume name long (Err why) = None

-- what the removal of an attribute does to values: its value has no blocks behind it; nothing where it is refused
abbrev pub deleted_value : VolumeState → List ℕ → Result (PlainNode × PlainAttribute) Refusal → Option ValueChange
deleted_value volume name (Ok pair) = Some (value_change volume pair.0.id name 0)
deleted_value volume name (Err why) = None

-- the values of all attributes of a folder go
abbrev pub values_of_node : VolumeState → Option PlainNode → Option ValueChange
values_of_node volume None = None
values_of_node volume (Some node) = Some (record {
  records = sum (map (λ (a : PlainAttribute). further_records volume node.id a.name) node.attributes);
  freed = sum (map (λ (a : PlainAttribute). freed_blocks volume node.id a.name) node.attributes);
  blocks = 0;
})

-- what a folder's removal does to the values of its attributes: all of them go; nothing where the removal is refused
abbrev pub removed_values : VolumeState → PlainTree → Result PlainEntry Refusal → Option ValueChange
removed_values volume tree (Ok entry) = values_of_node volume (node_at tree entry.id)
removed_values volume tree (Err why) = None

-- what a command does to values, where it sets or drops some
abbrev pub values_of : VolumeState → PlainTree → Command → Option ValueChange
values_of volume tree (command.SetAttr path name value) = set_value volume name (length value) (to_set tree path value)
values_of volume tree (command.DelAttr path name) = deleted_value volume name (to_attribute tree path name)
values_of volume tree (command.Rmdir path) = removed_values volume tree (to_rmdir tree path)
values_of volume tree _ = None

-- the runs that a value's blocks take
abbrev pub runs_for : ℕ → List Bool → ℕ
runs_for blocks free = if blocks == 0 then 0 else fewest_of blocks (free_runs free)

-- the needs with those of values: further records go and come, and blocks do
abbrev pub with_values : List Bool → Option ValueChange → Needs → Needs
with_values free None needs = needs
with_values free (Some change) needs = record needs {
  edits = slice_index needs.edits 0 ∷ slice_index needs.edits 1 ∷ (slice_index needs.edits 2 + change.records + overflow_records (runs_for change.blocks free)) ∷ [];
  new_blocks = change.blocks;
  old_blocks = change.freed;
  runs = runs_for change.blocks free;
}

-- ---- cut steps

-- the sectors that a cut step puts at most
abbrev pub cut_load : Room → ℕ
cut_load room =
    1 + node_sectors (tree_at room 1) + min (parts_for room.total 4096) 24
    + node_sectors (tree_at room 0) * min (4 * ((tree_at room 0).depth + 1) + 4) (tree_at room 0).nodes

-- The load of a cut step, which adds to no tree, or the refusal of one that the journal has no room for.
abbrev pub cut_cost : Room → Cost
cut_cost room = cost_or (load_refusal (cut_load room) room.capacity) (cut_load room) (0 ∷ 0 ∷ 0 ∷ [])

-- the fork of this kind grows and has blocks past its size, which go first, step by step
abbrev pub needs_cut_in : ℕ → VolumeState → Option Data → Bool
needs_cut_in kind volume None = false
needs_cut_in kind volume (Some put) = grows put && has_surplus_in kind volume put.id put.old_size

-- the same of a data fork
abbrev pub needs_cut : VolumeState → Option Data → Bool
needs_cut volume put = needs_cut_in data_kind volume put

-- ---- the weight

-- attributes are set in an attributes file alone
abbrev pub lacks_tree : VolumeState → Command → Bool
lacks_tree volume (command.SetAttr path name value) = not (has_attributes volume.head)
lacks_tree volume _ = false

-- both places of a `mv` name the same file
abbrev pub moves_onto_itself : Result (PlainEntry × Place) Refusal → Bool
moves_onto_itself (Ok pair) = is_same_file pair.0 pair.1.found
moves_onto_itself (Err why) = false

-- the command changes nothing on this tree, as a `mv` of a file onto itself
abbrev pub changes_nothing : PlainTree → Command → Bool
changes_nothing tree (command.Mv from to) = moves_onto_itself (to_mv tree from to)
changes_nothing tree _ = false

-- The load of a command on a volume, or the first resource refusal, where the blocks that are free are these. Its step doesn't refuse it.
unfoldable pub weight_with : ℕ → List Bool → VolumeState → PlainTree → Command → Cost
weight_with capacity free volume tree asked =
    if only_reads asked || changes_nothing tree asked then cost.Load 0 (0 ∷ 0 ∷ 0 ∷ [])
    else if needs_cut volume (data_of tree asked) then cut_cost (room_with capacity free volume)
    else if lacks_tree volume asked then cost.Refused refusal.NoTree
    else cost_of (with_values free (values_of volume tree asked) (needs_for free volume (edits_of tree asked) (data_of tree asked))) (room_with capacity free volume)

-- the same where no block is held
abbrev pub weight : ℕ → VolumeState → PlainTree → Command → Cost
weight capacity volume tree asked = weight_with capacity (free_blocks volume) volume tree asked

-- the gauge of a volume; a held block counts as free
abbrev pub gauge : ℕ → VolumeState → Gauge
gauge capacity volume = gauge_of (room_with capacity (free_blocks volume) volume)
