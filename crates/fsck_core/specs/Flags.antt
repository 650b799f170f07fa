-- The bits of blocks, and the blocks that something uses, as flags.
use Rattle.std.specs.Prelude.{◌≡◌, ℕ, Bool, false, List, map, slice_index_or}
use Rattle.std.specs.List.{range_with_len}
use Rattle.hfs_volume.specs.Content.{VolumeState, is_set}
use Rattle.hfs_volume.specs.Blocks.{is_among, used_in}
use Rattle.hfs_volume.specs.Broken.{Want, want, bit}

-- a flag for each block of a volume: whether its bit is set
abbrev pub AreBits : VolumeState → List Bool → Type 0
AreBits volume flags = flags ≡ map (is_set volume) (range_with_len 0 volume.head.total_blocks)

-- a flag for each block of a volume: whether something uses it
abbrev pub AreUsed : VolumeState → List Bool → Type 0
AreUsed volume flags = flags ≡ map (is_among (used_in volume)) (range_with_len 0 volume.head.total_blocks)

-- the bit of a block, and the one that is wanted there
abbrev pub bit_want : List Bool → List Bool → ℕ → Want
bit_want flags used block = want block (bit (slice_index_or flags block false)) (bit (slice_index_or used block false))
