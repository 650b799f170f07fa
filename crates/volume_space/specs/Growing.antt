-- The trees of a volume in service, which get more nodes.
use Rattle.std.specs.Prelude.{◌≡◌, ◌≢◌, ◌⊎◌, IsTrue, ◌<◌, ◌≤◌, ℕ, ◌+◌, ◌-◌, ◌*◌, ◌/◌, ◌^◌, min, Bool, true, false, List, ◌∷◌, [], length, slice_index_or}
use Rattle.std.specs.List.{Contains}
use Rattle.flag_rows.specs.Bits.{count_set, mark, sectors_for}
use Rattle.flag_rows.specs.Runs.{longest_of, runs_of}
use Rattle.alloc_bitmap.specs.Map.{BlockMap, free_of, none, touched_by}
use Rattle.hx_bytes.specs.declared.extents.Extent.{Extent}
use Rattle.hx_bytes.specs.declared.extents.ForkRecord.{ForkRecord}
use Rattle.sector_disk.specs.Lists.{Content}
use Rattle.sector_disk.specs.Space.{Space}
use Rattle.volume_header.specs.declared.header.VolumeHeader.{VolumeHeader}
use Rattle.btree_file.specs.Frame.{PutsWithin}
use Rattle.btree_file.specs.Growth.{HasGrown, map_nodes_for, sectors_with}
use Rattle.btree_file.specs.Map.{bits_of}
use Rattle.btree_file.specs.declared.tree.TreeFile.{TreeFile}
use Rattle.fork_map.specs.Cut.{join}
use Rattle.hfs_volume.specs.Content.{VolumeState, has_attributes, volume_of}
use Rattle.hfs_volume.specs.Forks.{data_kind, per_block_of}
use Rattle.hfs_volume.specs.Cost.{cost_of}
use Rattle.hfs_volume.specs.Reclaim.{GrowsTrees, KeepsTree, SameFiles, SameValues, blocks_at, first_growth}
use Rattle.hfs_volume.specs.Weight.{room_with}
use Rattle.hfs_volume.specs.declared.cost.Cost.TheVariants as cost
use Rattle.hfs_volume.specs.declared.cost.Needs.{Needs}
use Rattle.overflow.specs.Records.{eight_at}
use Rattle.volume_base.specs.Standing.{own_sectors}
use Rattle.volume_space.specs.declared.ahead.Growth.{Growth}
use Rattle.volume_space.specs.declared.ahead.Growth.TheVariants as growing
use Rattle.volume_space.specs.declared.ahead.WhichTree.{WhichTree}
use Rattle.volume_space.specs.declared.ahead.WhichTree.TheVariants as which
use Rattle.volume_base.specs.declared.volume.Volume.{Volume}

-- So many blocks in a row are free.
pub record HasFreeRun (many : ℕ) (free : List Bool) : Type 0 where
  pub start : ℕ
  pub each : (k : ℕ) → start ≤ k → k < start + many → slice_index_or free k false ≡ true

-- how many blocks so many nodes of a tree's file fill
abbrev pub blocks_filled : TreeFile → ℕ → ℕ
blocks_filled file more = more * (file.shape.node_size / 512) / file.per_block

-- how many of so many new nodes of it are map nodes
abbrev pub maps_among : TreeFile → ℕ → ℕ
maps_among file more = map_nodes_for file.shape.node_size (bits_of file.map.items) (file.shape.total + more)

-- the sectors of the bitmap in which a run of so many blocks has bits, at most
abbrev pub run_load : Volume → ℕ → ℕ
run_load volume blocks = min (sectors_for (length volume.map.used)) (blocks / 4096 + 2)

-- the sectors of the file that a growth by so many nodes puts at most: the header node, the last map node, and the new map nodes
abbrev pub nodes_load : TreeFile → ℕ → ℕ
nodes_load file more = (2 + maps_among file more) * (file.shape.node_size / 512)

-- the sectors that it puts at most: those of the file, those of the bitmap, and the header's
abbrev pub growth_load : Volume → TreeFile → ℕ → ℕ
growth_load volume file more = nodes_load file more + (run_load volume (blocks_filled file more) + 1)

-- The numbers that count a file's nodes, blocks and bytes have room for so many nodes more, which fill blocks, and its fork's record for
-- an extent more; its nodes have a size that nodes have.
pub record CountsHaveRoom (more : ℕ) (file : TreeFile) (fork : ForkRecord) (volume : Volume) : Type 0 where
  pub least : 512 ≤ file.shape.node_size
  pub most : file.shape.node_size ≤ 32768
  pub whole : blocks_filled file more * file.per_block ≡ more * (file.shape.node_size / 512)
  pub extents : length file.fork < 8
  pub nodes : file.shape.total + more < 2 ^ 32
  pub blocks : fork.total_blocks + blocks_filled file more < 2 ^ 32
  pub bytes : fork.logical_size + blocks_filled file more * volume.header.block_size < 2 ^ 64
  pub counted : blocks_filled file more ≤ volume.header.free_blocks

-- A file with this fork can get so many nodes more: they fill blocks, so many blocks in a row are free and not held, its fork has fewer than
-- eight extents, and the numbers that count its nodes, blocks and bytes have room. Since the last keep no bit was changed, and there is room to
-- put what a growth puts.
pub record CanGrow (more : ℕ) (file : TreeFile) (fork : ForkRecord) (volume : Volume) (space : Space) : Type 0 where
  pub some : 0 < blocks_filled file more
  pub whole : blocks_filled file more * file.per_block ≡ more * (file.shape.node_size / 512)
  pub enough : blocks_filled file more ≤ count_set (free_of volume.map)
  pub run : HasFreeRun (blocks_filled file more) (free_of volume.map)
  pub extents : length file.fork < 8
  pub nodes : file.shape.total + more < 2 ^ 32
  pub blocks : fork.total_blocks + blocks_filled file more < 2 ^ 32
  pub bytes : fork.logical_size + blocks_filled file more * volume.header.block_size < 2 ^ 64
  pub counted : blocks_filled file more ≤ volume.header.free_blocks
  pub inside : length volume.map.used * file.per_block ≤ space.sectors
  pub unchanged : volume.map.changed ≡ none (sectors_for (length volume.map.used))
  pub room : growth_load volume file more ≤ space.spare

-- the catalog can grow so
abbrev pub CanGrowCatalog : ℕ → Volume → Space → Type 0
CanGrowCatalog more volume space = CanGrow more volume.catalog.file volume.header.catalog_fork volume space

-- the extents overflow file can
abbrev pub CanGrowExtents : ℕ → Volume → Space → Type 0
CanGrowExtents more volume space = CanGrow more volume.extents.file volume.header.extents_fork volume space

-- the attributes file can
abbrev pub CanGrowAttributes : ℕ → Volume → Space → Type 0
CanGrowAttributes more volume space = CanGrow more volume.attributes.file volume.header.attributes_fork volume space

-- ---- the run that is taken
-- a bitmap of which the blocks of a run are taken
abbrev pub with_run : Extent → BlockMap → BlockMap
with_run run map = record map { used = mark map.used run true; changed = mark map.changed (touched_by run) true }

-- A run of so many free blocks was taken.
pub record TakesRun (count : ℕ) (run : Extent) (old new : BlockMap) : Type 0 where
  pub many : run.count ≡ count
  pub inside : run.start + run.count ≤ length old.used
  pub free : (k : ℕ) → run.start ≤ k → k < run.start + run.count → slice_index_or (free_of old) k false ≡ true
  pub taken : new ≡ with_run run old

-- ---- the header
-- the record of a fork that goes on in so many blocks more of this size, with these extents
abbrev pub longer_fork : ℕ → ℕ → List Extent → ForkRecord → ForkRecord
longer_fork count block extents fork = record {
  logical_size = fork.logical_size + count * block;
  clump_size = fork.clump_size;
  total_blocks = fork.total_blocks + count;
  extents = eight_at extents 0;
}

-- a header whose catalog goes on in so many blocks more, with these extents
abbrev pub with_catalog : ℕ → List Extent → VolumeHeader → VolumeHeader
with_catalog count extents head = record head { free_blocks = head.free_blocks - count; catalog_fork = longer_fork count head.block_size extents head.catalog_fork }

-- the same of its attributes file
abbrev pub with_attributes : ℕ → List Extent → VolumeHeader → VolumeHeader
with_attributes count extents head = record head { free_blocks = head.free_blocks - count; attributes_fork = longer_fork count head.block_size extents head.attributes_fork }

-- the same of its extents overflow file
abbrev pub with_extents : ℕ → List Extent → VolumeHeader → VolumeHeader
with_extents count extents head = record head { free_blocks = head.free_blocks - count; extents_fork = longer_fork count head.block_size extents head.extents_fork }

-- the volume whose catalog has this file behind a run of so many blocks, and this bitmap
abbrev pub lengthened : ℕ → Volume → BlockMap → TreeFile → Volume
lengthened many volume later file = record volume { header = with_catalog many file.fork volume.header; map = later; catalog = record volume.catalog { file = file } }

-- the same of its attributes file
abbrev pub lengthened_attributes : ℕ → Volume → BlockMap → TreeFile → Volume
lengthened_attributes many volume later file = record volume { header = with_attributes many file.fork volume.header; map = later; attributes = record volume.attributes { file = file } }

-- the same of its extents overflow file
abbrev pub lengthened_extents : ℕ → Volume → BlockMap → TreeFile → Volume
lengthened_extents many volume later file = record volume { header = with_extents many file.fork volume.header; map = later; extents = record volume.extents { file = file } }

-- ---- the file
-- A tree's file goes on in a run of blocks that was free, and header and bitmap of the volume, which is made so, say so; neither of them was put.
pub record LengthensFile (file : Volume → TreeFile) (made : ℕ → Volume → BlockMap → TreeFile → Volume) (more : ℕ) (old new : Volume) (before after : Space) : Type 0 where
  pub run : Extent
  pub takes : TakesRun (blocks_filled (file old) more) run old.map new.map
  pub grown : HasGrown run (file old) (file new) before.content after.content
  pub rest : new ≡ made run.count old new.map (file new)
  pub within : PutsWithin (sectors_with (file old) run) before after

-- the catalog's file goes on so
abbrev pub Lengthens : ℕ → Volume → Volume → Space → Space → Type 0
Lengthens more old new before after = LengthensFile (λ volume. volume.catalog.file) lengthened more old new before after

-- the extents overflow file does
abbrev pub LengthensExtents : ℕ → Volume → Volume → Space → Space → Type 0
LengthensExtents more old new before after = LengthensFile (λ volume. volume.extents.file) lengthened_extents more old new before after

-- the attributes file does
abbrev pub LengthensAttributes : ℕ → Volume → Volume → Space → Space → Type 0
LengthensAttributes more old new before after = LengthensFile (λ volume. volume.attributes.file) lengthened_attributes more old new before after

-- ---- the volume
-- every fork but this file's has the blocks that it had, and so has the value of each attribute
abbrev pub KeepsForks : ℕ → VolumeState → VolumeState → Type 0
KeepsForks id old new = ((other kind : ℕ) → (other ≢ id) ⊎ (kind ≢ data_kind) → blocks_at new other kind ≡ blocks_at old other kind) × SameValues old new

-- What a growth by so many nodes makes of the volume: its tree's file has these nodes more, of which all but the new map nodes are free, with a bit
-- for each; the header counts its blocks, and the bitmap has them in use.
pub record GrowsFile (file : Volume → TreeFile) (made : ℕ → Volume → BlockMap → TreeFile → Volume) (more : ℕ) (old new : Volume) : Type 0 where
  pub run : Extent
  pub takes : TakesRun (blocks_filled (file old) more) run old.map new.map
  pub numbers : (file new).shape ≡ record (file old).shape { total = (file new).shape.total; free = (file new).shape.free }
  pub total : (file new).shape.total ≡ (file old).shape.total + more
  pub free : (file new).shape.free + maps_among (file old) more ≡ (file old).shape.free + more
  pub bits : (file new).shape.total ≤ bits_of (file new).map.items
  pub extents : (file new).fork ≡ join (file old).fork (run ∷ [])
  pub rest : new ≡ made run.count old new.map (file new)

-- what it makes of the volume where the catalog grows
abbrev pub GrowsCatalog : ℕ → Volume → Volume → Type 0
GrowsCatalog more old new = GrowsFile (λ volume. volume.catalog.file) lengthened more old new

-- where the extents overflow file does
abbrev pub GrowsExtents : ℕ → Volume → Volume → Type 0
GrowsExtents more old new = GrowsFile (λ volume. volume.extents.file) lengthened_extents more old new

-- and where the attributes file does
abbrev pub GrowsAttributes : ℕ → Volume → Volume → Type 0
GrowsAttributes more old new = GrowsFile (λ volume. volume.attributes.file) lengthened_attributes more old new

-- a sector of a block that is neither used nor held
abbrev pub IsFreeAt : Volume → ℕ → Type 0
IsFreeAt volume s = slice_index_or (free_of volume.map) (s / per_block_of volume.header) false ≡ true

-- a sector that is the volume's own, or of a block that is free
abbrev pub IsOwnOrFree : Volume → ℕ → Type 0
IsOwnOrFree volume s = Contains (own_sectors volume) s ⊎ IsFreeAt volume s

-- a header of which the number of free blocks and the trees' forks alone are others
abbrev pub HeadGrows : VolumeHeader → VolumeHeader → Type 0
HeadGrows old new = new ≡ record old { free_blocks = new.free_blocks; extents_fork = new.extents_fork; catalog_fork = new.catalog_fork; attributes_fork = new.attributes_fork }

-- ---- one tree

-- a tree's file
abbrev pub file_of : WhichTree → Volume → TreeFile
file_of which.Extents volume = volume.extents.file
file_of which.Catalog volume = volume.catalog.file
file_of which.Attributes volume = volume.attributes.file

-- the record of its fork
abbrev pub fork_of : WhichTree → VolumeHeader → ForkRecord
fork_of which.Extents head = head.extents_fork
fork_of which.Catalog head = head.catalog_fork
fork_of which.Attributes head = head.attributes_fork

-- there is such a tree: a volume needn't have an attributes file
abbrev pub IsThere : WhichTree → VolumeHeader → Type 0
IsThere which.Extents head = Unit {0}
IsThere which.Catalog head = Unit {0}
IsThere which.Attributes head = IsTrue (has_attributes head)

-- how many nodes each tree gets where this one alone gets so many
abbrev pub alone : WhichTree → ℕ → List ℕ
alone which.Extents more = more ∷ 0 ∷ 0 ∷ []
alone which.Catalog more = 0 ∷ more ∷ 0 ∷ []
alone which.Attributes more = 0 ∷ 0 ∷ more ∷ []

-- the sectors that its growth by so many nodes puts at most
abbrev pub growth_room : WhichTree → ℕ → Volume → ℕ
growth_room tree more volume = growth_load volume (file_of tree volume) more

-- A file with this fork has room for so many nodes more: they fill blocks, so many blocks in a row are free and not held, its fork has fewer
-- than eight extents, the numbers that count its nodes, blocks and bytes have room, and as many sectors as its growth puts may be put.
pub record FileFits (more : ℕ) (file : TreeFile) (fork : ForkRecord) (volume : Volume) (space : Space) : Type 0 where
  pub some : 0 < blocks_filled file more
  pub run : blocks_filled file more ≤ longest_of (runs_of (free_of volume.map))
  pub counts : CountsHaveRoom more file fork volume
  pub room : growth_load volume file more ≤ space.spare

-- The growth of a tree by so many nodes fits: there is such a tree, and its file has room for them.
abbrev pub GrowthFits : WhichTree → ℕ → Volume → Space → Type 0
GrowthFits tree more volume space = IsThere tree volume.header × FileFits more (file_of tree volume) (fork_of tree volume.header) volume space

-- The fork of a tree has fewer than eight extents; that of the extents overflow file has them always where it can grow.
abbrev pub IsShort : WhichTree → Volume → Type 0
IsShort which.Extents volume = Unit {0}
IsShort which.Catalog volume = length volume.catalog.file.fork < 8
IsShort which.Attributes volume = length volume.attributes.file.fork < 8

-- What needs this, of the blocks that may be taken, costs a load that may be put, and wants so many nodes more of this tree first. Its fork has fewer
-- than eight extents, or the load is weighed by the volume's own journal.
pub record WantsFirst (tree : WhichTree) (more : ℕ) (volume : Volume) (space : Space) : Type 0 where
  pub needs : Needs
  pub capacity : ℕ
  pub load : ℕ
  pub grow : List ℕ
  pub costs : cost_of needs (room_with capacity (free_of volume.map) (volume_of space.content)) ≡ cost.Load load grow
  pub within : load ≤ space.spare
  pub some : 0 < more
  pub first : first_growth grow ≡ alone tree more
  pub there : IsThere tree volume.header
  pub short : IsShort tree volume ⊎ (capacity ≡ volume.capacity)

-- One tree has so many nodes more: the content is sound and the tree that it stands for is as it was, and so are the blocks of every fork
-- but a tree's and of each value, the journal's place, and of the header all but the number of free blocks and the trees' forks.
pub record GrowsAhead (tree : WhichTree) (more : ℕ) (before after : Content) : Type 0 where
  pub keeps : KeepsTree before after
  pub grows : GrowsTrees (alone tree more) (volume_of before) (volume_of after)
  pub files : SameFiles (volume_of before) (volume_of after)
  pub values : SameValues (volume_of before) (volume_of after)
  pub journal : (volume_of after).journal ≡ (volume_of before).journal
  pub head : HeadGrows (volume_of before).head (volume_of after).head

-- what became of a growth: the tree has grown, or nothing was changed
abbrev pub GoesAhead : Growth → WhichTree → ℕ → Content → Content → Type 0
GoesAhead growing.Grown tree more before after = GrowsAhead tree more before after
GoesAhead growing.CommitFirst tree more before after = after ≡ before
