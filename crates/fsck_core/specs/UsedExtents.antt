-- The extents of what uses a volume's blocks.
use Rattle.std.specs.Prelude.{ℕ, ◌-◌, ◌*◌, ◌/◌, ◌==◌, List, [], ◌∷◌, if◌then◌else◌}
use Rattle.hx_bytes.specs.declared.extents.Extent.{Extent}
use Rattle.volume_header.specs.declared.header.VolumeHeader.{VolumeHeader}
use Rattle.hfs_volume.specs.Forks.{parts_for, bad_blocks_id}
use Rattle.fsck_core.specs.declared.overflow.OverflowRow.{OverflowRow}

-- the block that holds the byte 1,024 before the end of a volume of so many sectors
abbrev pub last_part : ℕ → VolumeHeader → ℕ
last_part sectors head = (sectors * 512 - 1024) / head.block_size

-- the reserved blocks of a volume, as extents
abbrev pub reserved_extents : ℕ → VolumeHeader → List Extent
reserved_extents sectors head =
    record { start = 0; count = parts_for 1536 head.block_size } ∷ record { start = last_part sectors head; count = head.total_blocks - last_part sectors head } ∷ []

-- the extents of a row of bad blocks
abbrev pub bad_in : OverflowRow → List Extent
bad_in row = if row.id == bad_blocks_id then row.extents.extents else []
