-- Flags, and what they were at the last keep.
use Rattle.std.specs.Prelude.{ℕ, ◌+◌, ◌≤◌, Bool, not, List, [], ◌∷◌, length, map}
use Rattle.std.specs.List.{range_with_len, AllByRecursion}
use Rattle.hx_bytes.specs.declared.extents.Extent.{Extent}
use Rattle.flag_rows.specs.Marks.{Fit}
use Rattle.alloc_bitmap.specs.declared.log.BitChange.{BitChange}
use Rattle.flag_rows.specs.Bits.{mark}
use Rattle.flag_rows.specs.Marks.{is_held}

-- flags of blocks, and what they were at the last keep
pub record Kept : Type 0 where
  pub flags : List Bool
  pub kept : List Bool

-- the same, and for how many more extents there is memory
pub record Held : Type 0 where
  pub flags : List Bool
  pub kept : List Bool
  pub room : ℕ

-- what the flags were before these changes
abbrev pub rewind : List BitChange → List Bool → List Bool
rewind [] flags = flags
rewind (change ∷ rest) flags = mark (rewind rest flags) change.extent (not change.used)

-- for each of n blocks, whether one of these extents has it
abbrev pub held_by : ℕ → List Extent → List Bool
held_by n holds = map (λ k. is_held holds k) (range_with_len 0 n)

-- the changes end at n or before
abbrev pub ChangesFit : ℕ → List BitChange → Type 0
ChangesFit n changes = AllByRecursion (λ change. change.extent.start + change.extent.count ≤ n) changes

-- extents that hold some of n blocks, of which the first were there at the last keep
pub record AreHolds (n : ℕ) (list : List Extent) (kept : ℕ) : Type 0 where
  pub fit : Fit n list
  pub kept_inside : kept ≤ length list
