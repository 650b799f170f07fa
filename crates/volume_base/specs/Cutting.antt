-- Blocks at the end of a file's fork, which a step of housekeeping gives back.
use Rattle.std.specs.Prelude.{◌≡◌, ◌<◌, ◌≤◌, ℕ, ◌+◌, ◌-◌, ◌*◌, ◌==◌, min, List, [], ◌∷◌, length, take, drop, if◌then◌else◌}
use Rattle.fork_map.specs.Blocks.{blocks_of}
use Rattle.fork_map.specs.Cut.{front}
use Rattle.hx_bytes.specs.declared.extents.Extent.{Extent}
use Rattle.hx_bytes.specs.declared.extents.ForkRecord.{ForkRecord}
use Rattle.volume_header.specs.declared.header.VolumeHeader.{VolumeHeader}
use Rattle.cat_records.specs.declared.record.FileRecord.{FileRecord}
use Rattle.hfs_volume.specs.Forks.{data_kind, resource_kind}
use Rattle.hfs_volume.specs.Reclaim.{least}
use Rattle.overflow.specs.Records.{eight_at}
use Rattle.volume_base.specs.declared.cutting.Cut.{Cut}
use Rattle.volume_base.specs.declared.forks.ForkKind.{ForkKind}
use Rattle.volume_base.specs.declared.forks.ForkKind.TheVariants as kinds

-- the number that stands for a kind of fork
abbrev pub kind_of : ForkKind → ℕ
kind_of kinds.Data = data_kind
kind_of kinds.Resource = resource_kind

-- a file's fork of this kind
abbrev pub fork_at : ℕ → FileRecord → ForkRecord
fork_at kind file = if kind == data_kind then file.data_fork else file.resource_fork

-- a fork that has so many blocks of this size, in these extents, and no bytes past them
abbrev pub shorter_fork : ℕ → ℕ → List Extent → ForkRecord → ForkRecord
shorter_fork blocks block extents stored = record {
  logical_size = min stored.logical_size (blocks * block);
  clump_size = stored.clump_size;
  total_blocks = blocks;
  extents = eight_at extents 0;
}

-- A list of extents in two parts: those of the blocks in front, no fewer than these, and one run at the end, which is the last extent or its end.
pub record IsLastCut (keep : ℕ) (list : List Extent) (cut : Cut) : Type 0 where
  pub left : ℕ
  pub stays : cut.stays ≡ front left list
  pub stay : blocks_of cut.stays ≡ take left (blocks_of list)
  pub go : blocks_of (cut.goes ∷ []) ≡ drop left (blocks_of list)
  pub least : keep ≤ left
  pub some : 0 < cut.goes.count
  pub sum : left + cut.goes.count ≡ length (blocks_of list)
  pub near : length (blocks_of (take (length list - 1) list)) ≤ left

-- The blocks of a fork in these extents, in two such parts.
pub record IsCutOf (list : List Extent) (stored : ForkRecord) (keep : ℕ) (cut : Cut) : Type 0 where
  pub blocks : length (blocks_of list) ≡ stored.total_blocks
  pub last : IsLastCut keep list cut

-- the record of a fork of which this was cut
abbrev pub cut_fork_of : ℕ → ForkRecord → Cut → ForkRecord
cut_fork_of block stored cut = shorter_fork (stored.total_blocks - cut.goes.count) block cut.stays stored

-- a header that counts so many free blocks more
abbrev pub with_freed : ℕ → VolumeHeader → VolumeHeader
with_freed count head = record head { free_blocks = head.free_blocks + count }
