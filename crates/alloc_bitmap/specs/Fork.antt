-- The bits of an allocation file in a content, which is a list of sectors.
use Rattle.std.specs.Prelude.{◌≡◌, ℕ, ◌+◌, ◌*◌, ◌/◌, ◌%◌, ◌<◌, ◌≤◌, Bool, true, false, ◌∷◌, Option, Some, None, List, [], length, slice_get, slice_index_or}
use Rattle.flag_rows.specs.Bits.{bit_of}

-- the sector of a content, or no bytes where there is none
abbrev pub sector_or_none : List (List ℕ) → Option ℕ → List ℕ
sector_or_none content (Some at) = slice_index_or content at []
sector_or_none content None = []

-- the bit of a block in a fork, which is clear where the fork has no such bit
abbrev pub fork_bit : List (List ℕ) → List ℕ → ℕ → Bool
fork_bit content sectors k = bit_of (sector_or_none content (slice_get sectors (k / 4096))) (k % 4096)

-- the fork holds these flags as its first bits
abbrev pub HoldsBits : List (List ℕ) → List ℕ → List Bool → Type 0
HoldsBits content sectors flags = (k : ℕ) → k < length flags → fork_bit content sectors k ≡ slice_index_or flags k false

-- the sector of a fork in which this sector of the bitmap stands, where it was changed
abbrev pub IsChanged : List ℕ → List Bool → ℕ → Type 0
IsChanged sectors changed at = (place : ℕ) × (slice_index_or changed place false ≡ true) × (slice_get sectors place ≡ Some at)

-- in the changed sectors of a fork, each bit past the last of these flags is clear
abbrev pub ClearsRest : List (List ℕ) → List ℕ → List Bool → List Bool → Type 0
ClearsRest content sectors changed flags = (k : ℕ) → length flags ≤ k → slice_index_or changed (k / 4096) false ≡ true → fork_bit content sectors k ≡ false

-- the changed ones of these sectors, in order
abbrev pub changed_of : List ℕ → List Bool → List ℕ
changed_of [] changed = []
changed_of (at ∷ sectors) [] = []
changed_of (at ∷ sectors) (true ∷ changed) = at ∷ changed_of sectors changed
changed_of (at ∷ sectors) (false ∷ changed) = changed_of sectors changed

-- these bytes hold the flags of a changed sector of a fork, and past the last flag clear bits
pub record HoldsPart (sectors : List ℕ) (changed used : List Bool) (at : ℕ) (bytes : List ℕ) : Type 0 where
  pub place : ℕ
  pub is : slice_index_or changed place false ≡ true
  pub there : slice_get sectors place ≡ Some at
  pub whole : length bytes ≡ 512
  pub bits : (k : ℕ) → k < 4096 → bit_of bytes k ≡ slice_index_or used (place * 4096 + k) false
