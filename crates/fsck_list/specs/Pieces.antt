-- Flags in pieces of 8,192, of which a piece may be lacking.
use Rattle.std.specs.Prelude.{◌≡◌, ◌≤◌, ◌<◌, ◌*◌, ◌/◌, ◌%◌, ◌^◌, ℕ, Bool, false, List, [], length, map, slice_index_or}
use Rattle.std.specs.List.{range_with_len}

-- the flag at a place, which isn't set where its piece is lacking
unfoldable pub flag_at : List (List Bool) → ℕ → Bool
flag_at pieces k = slice_index_or (slice_index_or pieces (k / 8192) []) (k % 8192) false

-- the first so many of them
abbrev pub flags_in : ℕ → List (List Bool) → List Bool
flags_in n pieces = map (λ k. flag_at pieces k) (range_with_len 0 n)

-- each piece is whole, or is lacking
abbrev pub AreWhole : List (List Bool) → Type 0
AreWhole pieces = (i : ℕ) → 0 < length (slice_index_or pieces i []) → length (slice_index_or pieces i []) ≡ 8192

-- the pieces have room for so many flags
pub record ArePieces (n : ℕ) (pieces : List (List Bool)) : Type 0 where
  pub few : n < 2 ^ 32
  pub room : n ≤ length pieces * 8192
  pub whole : AreWhole pieces
