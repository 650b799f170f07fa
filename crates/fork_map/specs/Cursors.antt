-- Where a cursor stands in a list of extents.
use Rattle.std.specs.Prelude.{◌≡◌, ℕ, ◌<◌, ◌≤◌, List, length, drop, slice_index_or}
use Rattle.hx_bytes.specs.declared.extents.Extent.{Extent}
use Rattle.fork_map.specs.declared.cursor.Cursor.{Cursor}
use Rattle.fork_map.specs.Blocks.{blocks_of}

-- a cursor stands before the block at place n of a list: what it still gives are the blocks from there on
pub record IsAt (extents : List Extent) (cursor : Cursor) (n : ℕ) : Type 0 where
  pub inside : (other : Extent) → cursor.index < length extents → cursor.offset ≤ (slice_index_or extents cursor.index other).count
  pub rest : drop cursor.offset (blocks_of (drop cursor.index extents)) ≡ drop n (blocks_of extents)
