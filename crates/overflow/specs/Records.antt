-- The overflow records of a fork: the extents that its own record has no room for, eight to a record.
use Rattle.std.specs.Prelude.{ℕ, zero, suc, ◌+◌, ◌-◌, List, [], ◌∷◌, length, take, slice_index_or}
use Rattle.hx_bytes.specs.declared.extents.Extent.{Extent}
use Rattle.hx_bytes.specs.declared.extents.ExtentRecord.{ExtentRecord}
use Rattle.hx_bytes.specs.declared.extents.ForkRecord.{ForkRecord}
use Rattle.fork_map.specs.Blocks.{blocks_of}
use Rattle.hfs_volume.specs.Forks.{parts_for}
use Rattle.hfs_volume.specs.Records.{Overflow}
use Rattle.overflow.specs.declared.record.OverflowRecord.{OverflowRecord}

-- an extent without blocks
abbrev pub no_extent : Extent
no_extent = record { start = 0; count = 0 }

-- eight of these extents, from a place on; where there are fewer the others are unused
abbrev pub eight_at : List Extent → ℕ → ExtentRecord
eight_at extents at = record {
  extents =
      slice_index_or extents at no_extent ∷ slice_index_or extents (at + 1) no_extent ∷ slice_index_or extents (at + 2) no_extent
      ∷ slice_index_or extents (at + 3) no_extent ∷ slice_index_or extents (at + 4) no_extent ∷ slice_index_or extents (at + 5) no_extent
      ∷ slice_index_or extents (at + 6) no_extent ∷ slice_index_or extents (at + 7) no_extent ∷ [];
}

-- The next so many records, from a place of the list on: each has eight extents, and begins in the fork behind the blocks of all extents before them.
abbrev pub records_from : (many at : ℕ) → List Extent → List OverflowRecord
records_from zero at extents = []
records_from (suc many) at extents = record { start = length (blocks_of (take at extents)); extents = eight_at extents at } ∷ records_from many (at + 8) extents

-- The overflow records of a fork with these extents, of which the first eight stand in the fork's own record.
abbrev pub records_for : List Extent → List OverflowRecord
records_for extents = records_from (parts_for (length extents - 8) 8) 8 extents

-- the record of a fork with these extents, whose sizes are still to be set
abbrev pub front_record : List Extent → ForkRecord
front_record extents = record { logical_size = 0; clump_size = 0; total_blocks = 0; extents = eight_at extents 0 }

-- an overflow record under the key of a file's fork
abbrev pub under : ℕ → ℕ → OverflowRecord → Overflow
under id kind one = record { fork = kind; id = id; start = one.start; extents = one.extents.extents }

-- an overflow record without the fork that its key names
abbrev pub record_of : Overflow → OverflowRecord
record_of more = record { start = more.start; extents = record { extents = more.extents } }
