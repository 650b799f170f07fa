-- Sectors, each once, found by number.
use Rattle.std.specs.Prelude.{◌≡◌, ◌≢◌, ◌<◌, ◌≤◌, ◌-◌, ℕ, List, length, slice_index}
use Rattle.std.specs.Int.Bits.{bit_and}

-- the sectors, and for how many there is memory
pub record Indexed : Type 0 where
  pub sectors : List ℕ
  pub memory : ℕ

-- each sector stands there once
abbrev pub AreApart : List ℕ → Type 0
AreApart sectors = (i j : ℕ) → i < j → j < length sectors → slice_index sectors i ≢ slice_index sectors j

-- a sector stands there
pub record IsThere (sectors : List ℕ) (at k : ℕ) : Type 0 where
  pub inside : k < length sectors
  pub here : slice_index sectors k ≡ at

-- a sector isn't there
abbrev pub IsMissing : List ℕ → ℕ → Type 0
IsMissing sectors at = (i : ℕ) → i < length sectors → slice_index sectors i ≢ at

-- the row of a sector, of so many: the last bits of its number, where they are a power of two
abbrev pub row_in : ℕ → ℕ → ℕ
row_in rows sector = bit_and sector (rows - 1)

-- Of the sectors before `end`, the last of a row stands one before `last`, or none is of it where that is zero.
pub record IsLast (sectors : List ℕ) (rows end row last : ℕ) : Type 0 where
  pub within : last ≤ end
  pub of_row : 0 < last → row_in rows (slice_index sectors (last - 1)) ≡ row
  pub none_behind : (j : ℕ) → last ≤ j → j < end → row_in rows (slice_index sectors j) ≢ row

-- For each sector it is noted which one is the last of its row before it, and for each row which one is its last.
pub record AreRows (sectors before rows : List ℕ) : Type 0 where
  pub some : 0 < length rows
  pub as_many : length before ≡ length sectors
  pub before_each : (k : ℕ) → k < length sectors → IsLast sectors (length rows) k (row_in (length rows) (slice_index sectors k)) (slice_index before k)
  pub of_each : (row : ℕ) → row < length rows → IsLast sectors (length rows) (length sectors) row (slice_index rows row)

-- Each sector stands there once, and is found by its row. There is memory for so many.
pub record IsIndex (sectors before rows : List ℕ) (memory of_sectors of_before : ℕ) : Type 0 where
  pub some : length sectors ≤ memory
  pub apart : AreApart sectors
  pub in_rows : AreRows sectors before rows
  pub enough_sectors : memory ≤ of_sectors
  pub enough_before : memory ≤ of_before
