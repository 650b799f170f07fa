-- Where a walk over the sectors of a fork stands.
use Rattle.std.specs.Prelude.{◌≡◌, ℕ, ◌+◌, ◌*◌, ◌^◌, ◌<◌, List, Some, slice_get}
use Rattle.hx_bytes.specs.declared.extents.Extent.{Extent}
use Rattle.fork_map.specs.Blocks.{blocks_of, sectors_of}
use Rattle.fork_map.specs.Cursors.{IsAt}
use Rattle.file_io.specs.declared.walk.Walk.{Walk}

-- a walk stands before sector n of a fork: it has the sectors that are left of one block, and a cursor before the next block
pub record StandsAt (extents : List Extent) (per_block : ℕ) (walk : Walk) (n : ℕ) : Type 0 where
  pub place : ℕ
  pub cursor : IsAt extents walk.at place
  pub number : n + walk.left ≡ place * per_block
  pub left : (k : ℕ) → k < walk.left → slice_get (sectors_of per_block (blocks_of extents)) (n + k) ≡ Some (walk.sector + k)
  pub small : walk.sector + walk.left < 2 ^ 60
