-- The overflow records of a fork in the extents tree, and what a fork's record and they make together.
use Rattle.std.specs.Prelude.{◌≡◌, ℕ, ◌&&◌, ◌==◌, Bool, nat_lt, List, length, map, Option, Some, None, if◌then◌else◌}
use Rattle.std.specs.List.{flat_map}
use Rattle.hx_bytes.specs.Fork.{extents_at}
use Rattle.hx_bytes.specs.declared.extents.Extent.{Extent}
use Rattle.hx_bytes.specs.declared.extents.ForkRecord.{ForkRecord}
use Rattle.btree_node.specs.Keys.{extent_file, extent_fork, extent_start}
use Rattle.btree_node.specs.Store.{Store}
use Rattle.btree_node.specs.Tree.{pairs_of}
use Rattle.btree_edit.specs.Reading.{ReadsNodes}
use Rattle.hfs_model.specs.Sorted.{kept}
use Rattle.hfs_volume.specs.Records.{Overflow, overflow_of}
use Rattle.hfs_volume.specs.Forks.{is_of, in_use, extents_of}
use Rattle.hfs_volume.specs.Blocks.{GoesOn}
use Rattle.overflow.specs.declared.record.OverflowRecord.{OverflowRecord}

-- the overflow records of a tree, in the order of their keys
abbrev pub overflow_in_store : Store → List Overflow
overflow_in_store store = map overflow_of (pairs_of store)

-- those of one fork
abbrev pub fork_records : ℕ → ℕ → Store → List Overflow
fork_records id kind store = kept (is_of id kind) (overflow_in_store store)

-- a record begins behind a place
abbrev pub is_behind : ℕ → Overflow → Bool
is_behind start more = nat_lt start more.start

-- nothing changed but the count of loads
abbrev pub OnlyReads : Store → Store → Type 0
OnlyReads old new = (most : ℕ) × ReadsNodes most old new

-- A fork has these extents: those in use of its record, and behind them those of its overflow records, which go on where it ends.
pub record HasExtents (overflow : List Overflow) (id kind : ℕ) (extents : List Extent) : Type 0 where
  pub fork : ForkRecord
  pub eight : length fork.extents.extents ≡ 8
  pub is : extents_of overflow id kind fork ≡ extents
  pub goes_on : GoesOn overflow (record { id = id; kind = kind; fork = fork })

-- the record in a key and a value, where they are those of an overflow record of this fork
abbrev pub record_on : ℕ → ℕ → List ℕ → List ℕ → Option OverflowRecord
record_on id kind key value =
    if (length key == 12) && (length value == 64) && (extent_file key == id) && (extent_fork key == kind)
    then Some (record { start = extent_start key; extents = extents_at value 0 }) else None

-- the extents in use of some records
abbrev pub used_in : List OverflowRecord → List Extent
used_in records = flat_map (λ (one : OverflowRecord). in_use one.extents.extents) records
