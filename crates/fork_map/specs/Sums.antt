-- How many blocks of a fork come before each of its extents.
use Rattle.std.specs.Prelude.{◌≡◌, ◌<◌, ℕ, List, length, take, slice_index}
use Rattle.hx_bytes.specs.declared.extents.Extent.{Extent}
use Rattle.fork_map.specs.Blocks.{blocks_of}

-- each number counts the blocks of the extents before the extent at its place
pub record AreSums (extents : List Extent) (sums : List ℕ) : Type 0 where
  pub long : length sums ≡ length extents
  pub each : (k : ℕ) → k < length extents → slice_index sums k ≡ length (blocks_of (take k extents))
