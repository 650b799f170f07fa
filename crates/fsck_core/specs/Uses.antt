-- Blocks that are used, of which each is looked at once more than it was before.
use Rattle.std.specs.Prelude.{◌≡◌, ◌<◌, ◌≤◌, ℕ, Bool, false, List, length, map, slice_index_or, IsTrue}
use Rattle.alloc_bitmap.specs.Apart.{times}
use Rattle.fsck_list.specs.declared.finding.Finding.{Finding}
use Rattle.hfs_volume.specs.Blocks.{is_among}
use Rattle.hfs_volume.specs.Broken.{Want, want}
use Rattle.fsck_core.specs.Judged.{AddsUnmet}
use Rattle.fsck_core.specs.declared.uses.Sweep.{Sweep}

-- how many times a block is used, which is wanted to be once
abbrev pub use_want : List ℕ → ℕ → Want
use_want all block = want block (times block all) 1

-- that of each block
abbrev pub uses_of : List ℕ → List Want
uses_of all = map (use_want all) all

-- The blocks at the front of a list were marked, and it is told whether one of them stands there twice; what was found are blocks that the
-- list has twice.
pub record HasMarked (total : ℕ) (all front : List ℕ) (first : List Finding) (used : List Bool) (out : List Finding) (met : Bool) : Type 0 where
  pub long : length used ≡ total
  pub marks : (k : ℕ) → k < total → slice_index_or used k false ≡ is_among front k
  pub once : IsTrue met → (k : ℕ) → times k front ≤ 1
  pub twice : met ≡ false → (k : ℕ) × (1 < times k all)
  pub found : met ≡ false → 0 < length out
  pub each : AddsUnmet 18 (uses_of all) first out

-- Extents in the order of their starts were looked at, up to one that begins no earlier than some block: the blocks before the end are those
-- that they have, and from that block on they have all of these.
pub record HasSwept (total : ℕ) (all front : List ℕ) (first : List Finding) (used : List Bool) (out : List Finding) (sweep : Sweep) (last : ℕ) : Type 0 where
  pub marked : HasMarked total all front first used out sweep.met
  pub below : (k : ℕ) → 0 < times k front → k < sweep.end
  pub cover : (k : ℕ) → last ≤ k → k < sweep.end → 0 < times k front
