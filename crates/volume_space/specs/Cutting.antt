-- Blocks at the end of a file's fork, which a step of housekeeping gives back.
use Rattle.std.specs.Prelude.{◌≡◌, ◌⊎◌, ◌<◌, ◌≤◌, ℕ, ◌+◌, ◌-◌, ◌*◌, ◌/◌, ◌^◌, ◌==◌, ◌&&◌, min, nat_lt, not, true, false, List, [], ◌∷◌, length, take, drop, Option, None, Some, if◌then◌else◌}
use Rattle.std.specs.List.{Contains}
use Rattle.sector_disk.specs.Lists.{Content}
use Rattle.sector_disk.specs.Space.{AgreesOutside}
use Rattle.btree_edit.specs.Editing.{edit_writes}
use Rattle.jnl_format.specs.Recovery.{header_of_volume}
use Rattle.flag_rows.specs.Bits.{mark, sectors_for}
use Rattle.fork_map.specs.Blocks.{blocks_of}
use Rattle.fork_map.specs.Cut.{front}
use Rattle.alloc_bitmap.specs.Map.{BlockMap, Have, touched_by}
use Rattle.hx_bytes.specs.declared.extents.Extent.{Extent}
use Rattle.hx_bytes.specs.declared.extents.ForkRecord.{ForkRecord}
use Rattle.cat_records.specs.declared.record.CatRecord.{CatRecord}
use Rattle.cat_records.specs.declared.record.CatRecord.TheVariants.{Folder, File, Thread}
use Rattle.cat_records.specs.declared.record.FileRecord.{FileRecord}
use Rattle.hfs_volume.specs.Content.{VolumeState, overflow_in_volume, records_of, volume_of}
use Rattle.hfs_volume.specs.Forks.{data_kind, extents_of, parts_for, resource_kind}
use Rattle.hfs_volume.specs.Links.{orphans_of}
use Rattle.hfs_language.specs.declared.refusal.Refusal.{Refusal}
use Rattle.hfs_volume.specs.Reclaim.{CutOrphan, CutShrunk, CutsAlone, Does, IsTreeFork, Reclaim, blocks_at, blocks_wanted, least, next_reclaim}
use Rattle.hfs_volume.specs.Records.{Placed, id_of}
use Rattle.hfs_volume.specs.Weight.{cut_cost, free_blocks, room_with}
use Rattle.hfs_volume.specs.declared.cost.Cost.TheVariants as cost
use Rattle.volume_runs.specs.Rest.{cut_puts}
use Rattle.volume_space.specs.declared.tidying.Tidying.{Tidying}
use Rattle.volume_space.specs.declared.tidying.Tidying.TheVariants as tidying
use Rattle.hfs_volume.specs.TreeOf.{tree_of}
use Rattle.volume_base.specs.Changing.{catalog_node}
use Rattle.volume_base.specs.Lists.{lists_of}
use Rattle.volume_base.specs.Mapping.{HoldsMap}
use Rattle.volume_base.specs.Holding.{HoldsOn}
use Rattle.volume_base.specs.Standing.{map_sectors}
use Rattle.volume_base.specs.declared.cutting.Cut.{Cut}
use Rattle.volume_base.specs.declared.forks.ForkKind.{ForkKind}
use Rattle.volume_base.specs.declared.forks.ForkKind.TheVariants as kinds
use Rattle.volume_space.specs.declared.trimming.Surplus.{Surplus}
use Rattle.volume_base.specs.declared.volume.Volume.{Volume}
use Rattle.volume_base.specs.Cutting.{fork_at, with_freed}

-- ---- the run that goes
-- A list of extents in two parts: those of the blocks in front, and one run at the end, of so many blocks.
pub record IsSplit (count : ℕ) (list : List Extent) (cut : Cut) : Type 0 where
  pub stays : cut.stays ≡ front (length (blocks_of list) - count) list
  pub stay : blocks_of cut.stays ≡ take (length (blocks_of list) - count) (blocks_of list)
  pub go : blocks_of (cut.goes ∷ []) ≡ drop (length (blocks_of list) - count) (blocks_of list)
  pub some : 0 < cut.goes.count

-- The blocks of a run are in use, and the header can count them as free.
pub record MayGive (run : Extent) (volume : Volume) : Type 0 where
  pub used : Have volume.map.used run true
  pub counted : volume.header.free_blocks + run.count < 2 ^ 32
  pub most : run.count ≤ 32768

-- a bitmap that gave a run back, and holds its blocks
abbrev pub without_run : Extent → BlockMap → BlockMap
without_run run map = record map { used = mark map.used run false; held = mark map.held run true; changed = mark map.changed (touched_by run) true }

-- a volume that gave a run back
abbrev pub given_back : Extent → Volume → Volume
given_back run volume = record volume { map = without_run run volume.map; header = with_freed run.count volume.header }

-- the sectors of the bitmap that a run puts at most
abbrev pub given_load : Volume → ℕ
given_load volume = min (sectors_for (length volume.map.used)) 10

-- the sectors of the extents overflow file that a change of one of its records puts at most
abbrev pub spread_load : Volume → ℕ
spread_load volume = volume.extents.file.shape.node_size / 512 * min (edit_writes volume.extents.file.shape.depth) volume.extents.file.shape.total

-- the sectors that a cut puts at most: those of the bitmap, the header's, those of the extents overflow file, and those of a node of the catalog
abbrev pub trim_load : Volume → ℕ
trim_load volume = given_load volume + 1 + spread_load volume + catalog_node volume

-- a file's fork of this kind has these extents
abbrev pub IsForkOf : List Extent → ℕ → FileRecord → Content → Type 0
IsForkOf list kind file content = list ≡ extents_of (overflow_in_volume (volume_of content)) file.fields.id kind (fork_at kind file)

-- Bitmap and header of a volume were put: the content has them, and the volume's lists over it are as they were.
pub record PutsGiven (volume : Volume) (before after : Content) : Type 0 where
  pub holds : HoldsMap volume after
  pub headed : header_of_volume after ≡ volume.header
  pub lists : lists_of volume after ≡ lists_of volume before
  pub outside : AgreesOutside (λ s. (s ≡ 2) ⊎ Contains (map_sectors volume) s) before after

-- ---- a cut
-- A file's fork may be cut to no fewer blocks than these: to those that its bytes take, or to none where the file lost its last name.
abbrev pub MayCut : Content → ℕ → ℕ → ℕ → Type 0
MayCut content id kind keep =
    (keep ≡ blocks_wanted (volume_of content) id kind)
    ⊎ ((keep ≡ 0) × ((orphan : Placed) × Contains (orphans_of (records_of (volume_of content))) orphan × (id_of orphan ≡ id)))

-- ---- the step
-- The next step of reclaiming cuts this fork of the file with this CNID, to no fewer blocks than these.
abbrev pub IsNextCut : Option ℕ → Content → ℕ → ℕ → ℕ → Type 0
IsNextCut shrunk content id kind keep =
    ((next_reclaim (volume_of content) shrunk ≡ Some (CutShrunk id)) × (kind ≡ data_kind) × (keep ≡ blocks_wanted (volume_of content) id data_kind))
    ⊎ ((next_reclaim (volume_of content) shrunk ≡ Some (CutOrphan id kind)) × (keep ≡ 0) × (least (orphans_of (records_of (volume_of content))) ≡ Some id))

-- the steps that cut
abbrev pub IsCut : Reclaim → Type 0
IsCut step = ((id : ℕ) × (step ≡ CutShrunk id)) ⊎ ((id : ℕ) × (kind : ℕ) × (step ≡ CutOrphan id kind))

-- What a cut leaves of the lists of a content: the trees have their nodes and their blocks, the journal lies where it lay, and of the header the
-- count of free blocks alone is another one.
pub record KeepsTrees (old new : VolumeState) : Type 0 where
  pub head : new.head ≡ record old.head { free_blocks = new.head.free_blocks }
  pub extents : new.extents_tree.shape.total ≡ old.extents_tree.shape.total
  pub catalog : new.catalog_tree.shape.total ≡ old.catalog_tree.shape.total
  pub attributes : new.attributes_tree.shape.total ≡ old.attributes_tree.shape.total
  pub journal : new.journal ≡ old.journal
  pub forks : (id kind : ℕ) → IsTreeFork id → blocks_at new id kind ≡ blocks_at old id kind

-- This fork alone was cut, to no fewer blocks than these, and the tree is as it was.
pub record CutsOne (id kind keep : ℕ) (before after : Content) : Type 0 where
  pub alone : CutsAlone id kind keep (volume_of before) (volume_of after)
  pub keeps : KeepsTrees (volume_of before) (volume_of after)
  pub tree : tree_of after ≡ tree_of before

-- Nothing is missing for a cut, and no tree has to grow for it.
pub record AffordsCut (capacity : ℕ) (volume : VolumeState) : Type 0 where
  pub load : ℕ
  pub affords : cut_cost (room_with capacity (free_blocks volume) volume) ≡ cost.Load load (0 ∷ 0 ∷ 0 ∷ [])

-- the journal has no room for a cut
abbrev pub RefusesCut : ℕ → VolumeState → Type 0
RefusesCut capacity volume = (why : Refusal) × (cut_cost (room_with capacity (free_blocks volume) volume) ≡ cost.Refused why)

-- of the sectors that could be put, no more were put than a cut puts at most
abbrev pub PutsCut : ℕ → VolumeState → ℕ → ℕ → Type 0
PutsCut capacity volume before after = before ≤ after + cut_puts (room_with capacity (free_blocks volume) volume)

-- What the cut of a fork came to. Made: the fork was cut, and nothing was missing for it. CommitFirst: nothing was changed, and fewer sectors may be put
-- than a cut puts at most. Rest: nothing was changed, and the journal has no room for a cut.
abbrev pub CutsTo : Tidying → ℕ → ℕ → ℕ → ℕ → ℕ → Content → Content → Type 0
CutsTo tidying.Rest capacity spare id kind keep before after = (after ≡ before) × RefusesCut capacity (volume_of before)
CutsTo tidying.Made capacity spare id kind keep before after = AffordsCut capacity (volume_of before) × CutsOne id kind keep before after
CutsTo tidying.CommitFirst capacity spare id kind keep before after = (after ≡ before) × (spare < cut_puts (room_with capacity (free_blocks (volume_of before)) (volume_of before)))

-- The next step of reclaiming was made, and cut a fork.
pub record CutsFile (shrunk : Option ℕ) (before after : Content) : Type 0 where
  pub step : Reclaim
  pub is_cut : IsCut step
  pub next : next_reclaim (volume_of before) shrunk ≡ Some step
  pub does : Does step (volume_of before) (volume_of after)
  pub keeps : KeepsTrees (volume_of before) (volume_of after)
  pub tree : tree_of after ≡ tree_of before

-- ---- what is past a file's size, or left of a file
-- what a file's data fork has past its size, where blocks have this size
abbrev pub surplus_in : ℕ → CatRecord → Option Surplus
surplus_in block (Folder folder) = None
surplus_in block (File file) =
    if nat_lt (parts_for file.data_fork.logical_size block) file.data_fork.total_blocks then Some (record { kind = kinds.Data; keep = parts_for file.data_fork.logical_size block }) else None
surplus_in block (Thread thread) = None

-- what a fork of this kind has past its size, where blocks have this size and data up to an end makes it longer
abbrev pub surplus_ahead : ForkKind → ℕ → ForkRecord → ℕ → Option Surplus
surplus_ahead kind block fork end = if nat_lt fork.logical_size end && nat_lt (parts_for fork.logical_size block) fork.total_blocks then Some (record { kind = kind; keep = parts_for fork.logical_size block }) else None

-- the fork of a file that has blocks, the data fork first
abbrev pub blocks_left : CatRecord → Option Surplus
blocks_left (Folder folder) = None
blocks_left (File file) =
    if not (file.data_fork.total_blocks == 0) then Some (record { kind = kinds.Data; keep = 0 })
    else if not (file.resource_fork.total_blocks == 0) then Some (record { kind = kinds.Resource; keep = 0 })
    else None
blocks_left (Thread thread) = None
