-- Forks with their owners, and how their overflow records go on.
use Rattle.std.specs.Prelude.{ℕ, ◌+◌, ◌*◌, ◌==◌, not, min, Option, Some, None, List, [], ◌∷◌, ◌++◌, length, map, if◌then◌else◌}
use Rattle.hx_bytes.specs.declared.extents.Extent.{Extent}
use Rattle.volume_header.specs.declared.header.VolumeHeader.{VolumeHeader}
use Rattle.fork_map.specs.Blocks.{blocks_of}
use Rattle.hfs_volume.specs.Records.{Overflow}
use Rattle.hfs_volume.specs.Forks.{Owned, is_of, is_full, has_extents, blocks_owned}
use Rattle.hfs_volume.specs.Broken.{Want, want, extent_wants}
use Rattle.fsck_core.specs.Overflows.{overflow_in}
use Rattle.fsck_core.specs.declared.overflow.OverflowRow.{OverflowRow}
use Rattle.fsck_core.specs.declared.follow.OwnedFork.{OwnedFork}
use Rattle.fsck_core.specs.declared.follow.Front.{Front}

-- a fork with its owner, as the rules speak of it
abbrev pub owned_in : OwnedFork → Owned
owned_in row = record { id = row.id; kind = row.kind; fork = row.fork }

-- forks with their owners
abbrev pub owned_all : List OwnedFork → List Owned
owned_all rows = map owned_in rows

-- the front behind a row of this fork: it begins there, the one before it is full, and it has an extent in use; a row of another fork leaves it
-- as it is
abbrev pub next_front : ℕ → ℕ → Front → OverflowRow → Option Front
next_front id kind front row =
    if not (is_of id kind (overflow_in row)) then Some front
    else if not (row.start == front.place) then None
    else if not front.full then None
    else if not (has_extents row.extents.extents) then None
    else Some (record { place = row.start + length (blocks_of row.extents.extents); full = is_full row.extents.extents })

-- the front behind one row more, where those before it went on
abbrev pub step : ℕ → ℕ → Option Front → OverflowRow → Option Front
step id kind None row = None
step id kind (Some front) row = next_front id kind front row

-- the front behind rows that go on
abbrev pub follow : ℕ → ℕ → Option Front → List OverflowRow → Option Front
follow id kind front [] = front
follow id kind front (row ∷ rows) = follow id kind (step id kind front row) rows

-- ---- the numbers of rule 16, one after the other

-- the end of an extent that has blocks
abbrev pub extent_want : ℕ → ℕ → Extent → List Want
extent_want id total extent = if not (extent.count == 0) then want id (extent.start + extent.count) (min (extent.start + extent.count) total) ∷ [] else []

-- how many blocks and bytes a fork has
abbrev pub number_wants : VolumeHeader → List Overflow → Owned → List Want
number_wants head overflow owned =
    want owned.id owned.fork.total_blocks (length (blocks_owned overflow owned)) ∷ want owned.id owned.fork.logical_size (min owned.fork.logical_size (owned.fork.total_blocks * head.block_size)) ∷ []

-- the numbers of a fork
abbrev pub own_wants : VolumeHeader → List Overflow → Owned → List Want
own_wants head overflow owned = number_wants head overflow owned ++ extent_wants owned.id head.total_blocks owned.fork.extents.extents

-- the numbers of an overflow record
abbrev pub row_wants : ℕ → OverflowRow → List Want
row_wants total row = extent_wants row.id total row.extents.extents
