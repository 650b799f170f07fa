-- How many times blocks are used, and which of them a repair may write, by extents in the order of their starts.
use Rattle.std.specs.Prelude.{◌<◌, ◌≤◌, ℕ, ◌+◌, Bool, List, map, sum_by, if◌then◌else◌}
use Rattle.std.specs.List.{range_with_len}
use Rattle.hx_bytes.specs.declared.extents.Extent.{Extent}
use Rattle.alloc_bitmap.specs.Apart.{times}
use Rattle.fsck_repair.specs.declared.once.Sweep.{Sweep}
use Rattle.fsck_repair.specs.declared.once.Use.{Use}

-- how many times an extent has a block
abbrev pub hits : ℕ → Extent → ℕ
hits block extent = times block (range_with_len extent.start extent.count)

-- how many times it is used by this use
abbrev pub used_hits : ℕ → Use → ℕ
used_hits block one = if one.written then 0 else hits block one.extent

-- how many times this is an extent that a repair may write
abbrev pub written_hits : ℕ → Use → ℕ
written_hits block one = if one.written then hits block one.extent else 0

-- how many times a block is used
abbrev pub times_used : List Use → ℕ → ℕ
times_used uses block = sum_by (used_hits block) uses

-- and how many times a repair may write it
abbrev pub times_written : List Use → ℕ → ℕ
times_written uses block = sum_by (written_hits block) uses

-- extents as uses
abbrev pub as_uses : Bool → List Extent → List Use
as_uses written extents = map (λ extent. record { extent = extent; written = written }) extents

-- Extents in the order of their starts were looked at, up to one that begins no earlier than some block: the blocks that they have lie before the
-- ends, and from that block on all blocks before the ends are such; and those that a repair may write are used once.
pub record HasSwept (Used Written : ℕ → ℕ) (sweep : Sweep) (last : ℕ) : Type 0 where
  pub used_below : (k : ℕ) → 0 < Used k → k < sweep.used
  pub used_cover : (k : ℕ) → last ≤ k → k < sweep.used → 0 < Used k
  pub twice_below : (k : ℕ) → 1 < Used k → k < sweep.twice
  pub twice_cover : (k : ℕ) → last ≤ k → k < sweep.twice → 1 < Used k
  pub written_below : (k : ℕ) → 0 < Written k → k < sweep.written
  pub written_cover : (k : ℕ) → last ≤ k → k < sweep.written → 0 < Written k
  pub once : (k : ℕ) → 0 < Written k → Used k ≤ 1

-- some block that a repair may write is used twice
abbrev pub IsTwice : (ℕ → ℕ) → (ℕ → ℕ) → Type 0
IsTwice Used Written = (k : ℕ) × (0 < Written k) × (1 < Used k)

-- the counts with the blocks from one up to another
abbrev pub with_blocks : (ℕ → ℕ) → ℕ → ℕ → ℕ → ℕ
with_blocks Count start count k = Count k + times k (range_with_len start count)
