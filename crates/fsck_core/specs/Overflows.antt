-- The overflow records of a volume as rows.
use Rattle.std.specs.Prelude.{◌≡◌, ℕ, List, [], length, map, if◌then◌else◌}
use Rattle.hx_bytes.specs.declared.extents.Extent.{Extent}
use Rattle.btree_node.specs.Levels.{Pair}
use Rattle.hfs_volume.specs.Records.{Overflow, overflow_of}
use Rattle.hfs_volume.specs.Forks.{in_use, is_of}
use Rattle.fsck_core.specs.declared.overflow.OverflowRow.{OverflowRow}

-- a row as an overflow record
abbrev pub overflow_in : OverflowRow → Overflow
overflow_in row = record { fork = row.fork; id = row.id; start = row.start; extents = row.extents.extents }

-- rows as overflow records
abbrev pub overflows_in : List OverflowRow → List Overflow
overflows_in rows = map overflow_in rows

-- the overflow records that pairs spell
abbrev pub overflows_of : List Pair → List Overflow
overflows_of pairs = map overflow_of pairs

-- a key and a value have the lengths of those of an overflow record
pub record IsOverflowPair (pair : Pair) : Type 0 where
  pub key : length pair.0 ≡ 12
  pub value : length pair.1 ≡ 64

-- the extents in use of a row, where it is one of this fork
abbrev pub extents_for : ℕ → ℕ → OverflowRow → List Extent
extents_for id kind row = if is_of id kind (overflow_in row) then in_use row.extents.extents else []
