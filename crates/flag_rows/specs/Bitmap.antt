-- The bytes of a bitmap, made from which numbers are marked: a bit for each number, from the highest bit of the first byte on.
use Rattle.std.specs.Prelude.{ℕ, zero, suc, ◌+◌, ◌*◌, ◌||◌, nat_lt, Bool, List, [], ◌∷◌, if◌then◌else◌}
use Rattle.hx_bytes.specs.declared.extents.Extent.{Extent}
use Rattle.flag_rows.specs.Bits.{has}

-- the extent that has no number
abbrev pub nowhere : Extent
nowhere = record { start = 0; count = 0 }

-- all numbers below a bound, and those of one extent
abbrev pub is_marked : ℕ → Extent → ℕ → Bool
is_marked below also number = nat_lt number below || has also number

-- a flag as a number: 1 where it is set
abbrev pub bit : Bool → ℕ
bit is_set = if is_set then 1 else 0

-- the byte whose highest bit is that of the number `first`
abbrev pub bits_byte : (ℕ → Bool) → ℕ → ℕ
bits_byte is_set first =
    128 * bit (is_set first) + 64 * bit (is_set (first + 1)) + 32 * bit (is_set (first + 2)) + 16 * bit (is_set (first + 3))
    + 8 * bit (is_set (first + 4)) + 4 * bit (is_set (first + 5)) + 2 * bit (is_set (first + 6)) + bit (is_set (first + 7))

-- so many bytes, from the bit of the number `first` on
unfoldable pub bits_bytes : (ℕ → Bool) → ℕ → ℕ → List ℕ
bits_bytes is_set first zero = []
bits_bytes is_set first (suc count) = bits_byte is_set first ∷ bits_bytes is_set (first + 8) count
