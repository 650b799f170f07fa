-- The checksum of journal headers and block lists.
use Rattle.std.specs.Prelude.{ℕ, ◌+◌, ◌-◌, ◌*◌, ◌%◌, ◌^◌, List, fold, bit_xor}

-- with one byte more: the sum a byte further up, xor the sum and the byte, in 32 bits
abbrev pub with_byte : ℕ → ℕ → ℕ
with_byte sum byte = bit_xor (sum * 256 % 2 ^ 32) ((sum + byte) % 2 ^ 32)

-- the complement of what stands after the last byte
unfoldable pub checksum_of : List ℕ → ℕ
checksum_of bytes = 2 ^ 32 - 1 - fold with_byte 0 bytes
