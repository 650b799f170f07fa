-- Extents and forks as they stand in bytes, highest byte first (TN1150, "Fork Data Structure").
use Rattle.std.specs.Prelude.{◌≡◌, ℕ, ◌+◌, ◌^◌, ◌<◌, List, [], ◌∷◌, ◌++◌, length}
use Rattle.std.specs.List.{flat_map, AllByRecursion}
use Rattle.hx_bytes.specs.Field.{big, big_at}
use Rattle.hx_bytes.specs.declared.extents.Extent.{Extent}
use Rattle.hx_bytes.specs.declared.extents.ExtentRecord.{ExtentRecord}
use Rattle.hx_bytes.specs.declared.extents.ForkRecord.{ForkRecord}

-- the first block of a run and the number of its blocks: 8 bytes
abbrev pub extent_bytes : Extent → List ℕ
extent_bytes extent = big 4 extent.start ++ big 4 extent.count

-- the extent in the 8 bytes from a place on
abbrev pub extent_at : List ℕ → ℕ → Extent
extent_at bytes at = record { start = big_at 4 bytes at; count = big_at 4 bytes (at + 4) }

-- eight extents, one behind the other: 64 bytes
unfoldable pub extents_bytes : ExtentRecord → List ℕ
extents_bytes extents = flat_map extent_bytes extents.extents

-- the eight extents in the 64 bytes from a place on
unfoldable pub extents_at : List ℕ → ℕ → ExtentRecord
extents_at bytes at = record {
  extents =
      extent_at bytes at ∷ extent_at bytes (at + 8) ∷ extent_at bytes (at + 16) ∷ extent_at bytes (at + 24)
      ∷ extent_at bytes (at + 32) ∷ extent_at bytes (at + 40) ∷ extent_at bytes (at + 48) ∷ extent_at bytes (at + 56) ∷ [];
}

-- logical size, clump size, number of blocks, eight extents: 80 bytes
unfoldable pub fork_bytes : ForkRecord → List ℕ
fork_bytes fork = big 8 fork.logical_size ++ big 4 fork.clump_size ++ big 4 fork.total_blocks ++ extents_bytes fork.extents

-- the fork in the 80 bytes from a place on
abbrev pub fork_at : List ℕ → ℕ → ForkRecord
fork_at bytes at = record {
  logical_size = big_at 8 bytes at;
  clump_size = big_at 4 bytes (at + 8);
  total_blocks = big_at 4 bytes (at + 12);
  extents = extents_at bytes (at + 16);
}

-- both numbers of an extent fit their 32 bits
pub record FitsExtent (extent : Extent) : Type 0 where
  pub start : extent.start < 2 ^ 32
  pub count : extent.count < 2 ^ 32

-- there are eight extents, and each fits
pub record FitsExtents (extents : ExtentRecord) : Type 0 where
  pub eight : length extents.extents ≡ 8
  pub each : AllByRecursion FitsExtent extents.extents

-- each number of a fork fits its bits
pub record FitsFork (fork : ForkRecord) : Type 0 where
  pub logical_size : fork.logical_size < 2 ^ 64
  pub clump_size : fork.clump_size < 2 ^ 32
  pub total_blocks : fork.total_blocks < 2 ^ 32
  pub extents : FitsExtents fork.extents
