-- The catalog or the attributes file gets more nodes, where its fork has eight extents or more: those behind the eight stand in overflow records.
use Rattle.std.specs.Prelude.{◌≡◌, ◌≢◌, ◌<◌, ◌≤◌, ℕ, ◌+◌, ◌-◌, ◌*◌, ◌/◌, ◌^◌, true, List, [], ◌∷◌, IsTrue, length}
use Rattle.std.specs.List.{Contains}
use Rattle.sector_disk.specs.Space.{Space}
use Rattle.alloc_bitmap.specs.Apart.{AreApart}
use Rattle.alloc_bitmap.specs.Map.{free_of, none}
use Rattle.flag_rows.specs.Bits.{count_set, sectors_for}
use Rattle.flag_rows.specs.Runs.{longest_of, runs_of}
use Rattle.hx_bytes.specs.declared.extents.Extent.{Extent}
use Rattle.hx_bytes.specs.declared.extents.ForkRecord.{ForkRecord}
use Rattle.btree_file.specs.declared.tree.TreeFile.{TreeFile}
use Rattle.fork_map.specs.Cut.{join}
use Rattle.hfs_volume.specs.Cost.{cost_of}
use Rattle.hfs_volume.specs.Content.{has_attributes, overflow_in_volume}
use Rattle.hfs_volume.specs.Forks.{per_block_of, extents_of, extents_id, catalog_id, allocation_id, attributes_id, data_kind}
use Rattle.volume_base.specs.Lists.{lists_of}
use Rattle.volume_base.specs.Room.{room_on}
use Rattle.volume_base.specs.declared.room.FreeBlocks.TheVariants as blocks
use Rattle.volume_space.specs.Growing.{GrowthFits, HasFreeRun, TakesRun, blocks_filled, growth_load, growth_room}
use Rattle.volume_space.specs.declared.ahead.WhichTree.{WhichTree}
use Rattle.volume_space.specs.declared.ahead.WhichTree.TheVariants as which
use Rattle.volume_space.specs.Spreading.{edits_load, is_met_extents, needs_extents}
use Rattle.volume_base.specs.Standing.{AreWhole, HoldsTrees, IsKeptAside, blocks_end, file_sectors, own_sectors}
use Rattle.volume_base.specs.declared.volume.Volume.{Volume}

-- A volume stands but for the overflow records of one tree's fork, which aren't those of its extents yet.
pub record StandsBut (id : ℕ) (volume : Volume) (space : Space) : Type 0 where
  pub trees : HoldsTrees volume space.content
  pub extents : volume.extents.file.fork ≡ extents_of [] extents_id data_kind volume.header.extents_fork
  pub extents_per : volume.extents.file.per_block ≡ per_block_of volume.header
  pub catalog : id ≢ catalog_id → volume.catalog.file.fork ≡ extents_of (overflow_in_volume (lists_of volume space.content)) catalog_id data_kind volume.header.catalog_fork
  pub catalog_per : volume.catalog.file.per_block ≡ per_block_of volume.header
  pub attributes : id ≢ attributes_id → IsTrue (has_attributes volume.header) → volume.attributes.file.fork ≡ extents_of (overflow_in_volume (lists_of volume space.content)) attributes_id data_kind volume.header.attributes_fork
  pub attributes_per : IsTrue (has_attributes volume.header) → volume.attributes.file.per_block ≡ per_block_of volume.header
  pub map : volume.map.fork ≡ extents_of (overflow_in_volume (lists_of volume space.content)) allocation_id data_kind volume.header.allocation_fork
  pub map_per : volume.map.per_block ≡ per_block_of volume.header
  pub whole : AreWhole space.content
  pub apart : AreApart (own_sectors volume)
  pub blocks : length volume.map.used ≡ volume.header.total_blocks
  pub closed : (at : ℕ) → space.closed at → Contains (own_sectors volume) at → ⊥
  pub aside : (at : ℕ) → IsKeptAside volume space.content at → Contains (own_sectors volume) at → ⊥
  pub large : 2 < length space.content
  pub inside : (at : ℕ) → Contains (file_sectors volume) at → at < blocks_end volume
  pub fit : blocks_end volume ≤ length space.content
  pub live : (at : ℕ) → space.live at → Contains (own_sectors volume) at

-- it does so over a space that tells
abbrev pub StandsButOver : ℕ → Volume → Space → Type 0
StandsButOver id volume space = IsTrue space.tells → StandsBut id volume space

-- A list of extents goes on in a run of blocks: the last one is longer, or there is one more.
pub record GoesOnInRun (old new : List Extent) : Type 0 where
  pub run : Extent
  pub some : 0 < run.count
  pub is : new ≡ join old (run ∷ [])

-- The extents overflow file has room for the records of a fork that goes on in a run, where so many sectors may be put: for one edit.
abbrev pub HasRoomForRun : Volume → ℕ → Type 0
HasRoomForRun volume spare = is_met_extents (cost_of (needs_extents 1) (room_on blocks.Takable volume)) spare ≡ true

-- The numbers that count a file's nodes, blocks and bytes have room for so many nodes more, which fill blocks; its nodes have a size that nodes have.
pub record NumbersHaveRoom (more : ℕ) (file : TreeFile) (fork : ForkRecord) (volume : Volume) : Type 0 where
  pub least : 512 ≤ file.shape.node_size
  pub most : file.shape.node_size ≤ 32768
  pub whole : blocks_filled file more * file.per_block ≡ more * (file.shape.node_size / 512)
  pub nodes : file.shape.total + more < 2 ^ 32
  pub blocks : fork.total_blocks + blocks_filled file more < 2 ^ 32
  pub bytes : fork.logical_size + blocks_filled file more * volume.header.block_size < 2 ^ 64
  pub counted : blocks_filled file more ≤ volume.header.free_blocks

-- A file with this fork, of any number of extents, can get so many nodes more: they fill blocks, so many blocks in a row are free and not held, and the
-- numbers that count its nodes, blocks and bytes have room. Since the last keep no bit was changed, and there is room to put what a growth puts.
pub record CanGrowSpread (more : ℕ) (file : TreeFile) (fork : ForkRecord) (volume : Volume) (space : Space) : Type 0 where
  pub some : 0 < blocks_filled file more
  pub whole : blocks_filled file more * file.per_block ≡ more * (file.shape.node_size / 512)
  pub enough : blocks_filled file more ≤ count_set (free_of volume.map)
  pub run : HasFreeRun (blocks_filled file more) (free_of volume.map)
  pub nodes : file.shape.total + more < 2 ^ 32
  pub blocks : fork.total_blocks + blocks_filled file more < 2 ^ 32
  pub bytes : fork.logical_size + blocks_filled file more * volume.header.block_size < 2 ^ 64
  pub counted : blocks_filled file more ≤ volume.header.free_blocks
  pub inside : length volume.map.used * file.per_block ≤ space.sectors
  pub unchanged : volume.map.changed ≡ none (sectors_for (length volume.map.used))
  pub room : growth_load volume file more ≤ space.spare

-- Behind the growth of a file by so many nodes there is room for its overflow records.
abbrev pub HasRoomBehind : ℕ → TreeFile → Volume → Space → Type 0
HasRoomBehind more file volume space = HasRoomForRun volume (space.spare - growth_load volume file more)

-- A file with this fork, of any number of extents, has room for so many nodes more: they fill blocks, so many blocks in a row are free and not held, the
-- numbers that count its nodes, blocks and bytes have room, as many sectors as its growth puts may be put, and behind them an edit of the extents
-- overflow file.
pub record SpreadFits (more : ℕ) (file : TreeFile) (fork : ForkRecord) (volume : Volume) (space : Space) : Type 0 where
  pub some : 0 < blocks_filled file more
  pub run : blocks_filled file more ≤ longest_of (runs_of (free_of volume.map))
  pub counts : NumbersHaveRoom more file fork volume
  pub room : growth_load volume file more ≤ space.spare
  pub edit : HasRoomBehind more file volume space

-- The growth of a tree by so many nodes fits, whose fork has any number of extents: there is such a tree, and its file has room for them. The extents
-- overflow file has no overflow records.
abbrev pub SpreadGrowthFits : WhichTree → ℕ → Volume → Space → Type 0
SpreadGrowthFits which.Extents more volume space = GrowthFits which.Extents more volume space
SpreadGrowthFits which.Catalog more volume space = SpreadFits more volume.catalog.file volume.header.catalog_fork volume space
SpreadGrowthFits which.Attributes more volume space = IsTrue (has_attributes volume.header) × SpreadFits more volume.attributes.file volume.header.attributes_fork volume space

-- A run of so many free blocks was taken, and blocks have the size that they had.
pub record TakesBlocks (count : ℕ) (old new : Volume) : Type 0 where
  pub run : Extent
  pub takes : TakesRun count run old.map new.map
  pub block : new.header.block_size ≡ old.header.block_size

-- ---- what it puts

-- the sectors that the growth of a tree by so many nodes puts at most, with an edit of the extents overflow file
abbrev pub growth_room_spread : WhichTree → ℕ → Volume → ℕ
growth_room_spread tree more volume = growth_room tree more volume + edits_load volume.extents.file.shape 1
