-- Tables of what escapes stand for.
use Rattle.std.specs.Prelude.{◌≡◌, ◌<◌, ◌≤◌, ◌*◌, ℕ, List, true, false, slice_index}
use Rattle.std.specs.Fmt.{digit_glyph}
use Rattle.hfs_language.specs.Text.{is_plain}

-- a number below 256 is that of an upper-case hexadecimal digit, counted in units; a byte that is no digit has 256
abbrev pub IsDigit : ℕ → ℕ → ℕ → Type 0
IsDigit unit byte number = (number ≤ 256) × (number < 256 → (digit : ℕ) × (digit < 16) × (number ≡ unit * digit) × (digit_glyph true digit ≡ byte))

-- a table says of each byte what it is as a digit
abbrev pub AreDigits : ℕ → List ℕ → Type 0
AreDigits unit table = (byte : ℕ) → byte < 256 → IsDigit unit byte (slice_index table byte)

-- 0 is said of a byte that stands for itself, 1 of one that is escaped
abbrev pub IsKind : ℕ → ℕ → Type 0
IsKind number kind = (kind ≡ 0 → (number < 256) × (is_plain number ≡ true)) × (kind ≡ 1 → (number < 256) × (is_plain number ≡ false))

-- a table says of each number how it is spelled
abbrev pub AreKinds : List ℕ → Type 0
AreKinds table = (number : ℕ) → number < 513 → IsKind number (slice_index table number)

-- The tables of both digits and of how each number is spelled.
pub record AreEscapes (high low kinds : List ℕ) : Type 0 where
  pub first : AreDigits 16 high
  pub second : AreDigits 1 low
  pub spelled : AreKinds kinds
