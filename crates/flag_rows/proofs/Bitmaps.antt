-- Bitmaps, byte by byte and bit by bit.
use Rattle.std.proofs.Common.{◌≡◌, ℕ, zero, suc, ◌+◌, ◌-◌, ◌*◌, ◌/◌, ◌%◌, ◌<◌, ◌≤◌, ◌==◌, Bool, true, false, List, [], ◌∷◌, ◌++◌, length, get_or, refl, ◌∙◌, ap, arith, ⊎_elim}
use Rattle.std.specs.Int.{bit_at}
use Rattle.std.proofs.lemmas.Bool.{cases_lt}
use Rattle.flag_rows.specs.Bits.{bit_of}
use Rattle.flag_rows.specs.Bitmap.{bit, bits_byte, bits_bytes}
use Rattle.flag_rows.proofs.ByteLaws.{bit_past, bits_left, bits_right}

-- one byte more at the end
pub bits_bytes_more : (is_set : ℕ → Bool) (first count : ℕ) → bits_bytes is_set first (count + 1) ≡ bits_bytes is_set first count ++ bits_byte is_set (first + 8 * count) ∷ []
unfolding bits_bytes
bits_bytes_more is_set first zero = ap (λ (n : ℕ). bits_byte is_set n ∷ []) {x = first} {y = first + 8 * 0} (omega arith)
bits_bytes_more is_set first (suc count) =
    ap (bits_bytes is_set first) {x = suc count + 1} {y = suc (count + 1)} (omega arith)
    ∙ ap (λ (l : List ℕ). bits_byte is_set first ∷ l) (bits_bytes_more is_set (first + 8) count)
    ∙ ap (λ (n : ℕ). bits_bytes is_set first (suc count) ++ bits_byte is_set n ∷ []) {x = first + 8 + 8 * count} {y = first + 8 * suc count} (omega arith)

pub bits_bytes_none : (is_set : ℕ → Bool) (first : ℕ) → bits_bytes is_set first 0 ≡ []
unfolding bits_bytes
bits_bytes_none is_set first = refl

pub length-bits_bytes : (is_set : ℕ → Bool) (first count : ℕ) → length (bits_bytes is_set first count) ≡ count
unfolding bits_bytes
length-bits_bytes is_set first zero = refl
length-bits_bytes is_set first (suc count) = ap suc (length-bits_bytes is_set (first + 8) count)

small : (is_set : Bool) → bit is_set ≤ 1
small true = omega arith
small false = omega arith

tells : (byte place : ℕ) (is_set : Bool) → bit_at byte place ≡ bit is_set → (bit_at byte place == 1) ≡ is_set
tells byte place true is = ap (λ (b : ℕ). b == 1) is
tells byte place false is = ap (λ (b : ℕ). b == 1) is

-- what holds for each of the first eight numbers
pick : (P : ℕ → Type 0) → P 0 → P 1 → P 2 → P 3 → P 4 → P 5 → P 6 → P 7 → (k : ℕ) → k < 8 → P k
pick P a b c d e f g h zero low = a
pick P a b c d e f g h (suc zero) low = b
pick P a b c d e f g h (suc (suc zero)) low = c
pick P a b c d e f g h (suc (suc (suc zero))) low = d
pick P a b c d e f g h (suc (suc (suc (suc zero)))) low = e
pick P a b c d e f g h (suc (suc (suc (suc (suc zero))))) low = f
pick P a b c d e f g h (suc (suc (suc (suc (suc (suc zero)))))) low = g
pick P a b c d e f g h (suc (suc (suc (suc (suc (suc (suc zero))))))) low = h
pick P a b c d e f g h (suc (suc (suc (suc (suc (suc (suc (suc k)))))))) low = absurd (omega arith)

-- the bits of one byte
byte_bits : (is_set : ℕ → Bool) (first k : ℕ) → k < 8 → (bit_at (bits_byte is_set first) (7 - k) == 1) ≡ is_set (first + k)
byte_bits is_set first k low =
    let byte : ℕ = bits_byte is_set first in
    let a = small (is_set first) in
    let b = small (is_set (first + 1)) in
    let c = small (is_set (first + 2)) in
    let d = small (is_set (first + 3)) in
    let e = small (is_set (first + 4)) in
    let f = small (is_set (first + 5)) in
    let g = small (is_set (first + 6)) in
    let h = small (is_set (first + 7)) in
    pick (λ (n : ℕ). (bit_at byte (7 - n) == 1) ≡ is_set (first + n))
    (tells byte 7 (is_set first) (omega arith) ∙ ap is_set {x = first} {y = first + 0} (omega arith))
    (tells byte 6 (is_set (first + 1)) (omega arith))
    (tells byte 5 (is_set (first + 2)) (omega arith))
    (tells byte 4 (is_set (first + 3)) (omega arith))
    (tells byte 3 (is_set (first + 4)) (omega arith))
    (tells byte 2 (is_set (first + 5)) (omega arith))
    (tells byte 1 (is_set (first + 6)) (omega arith))
    (tells byte 0 (is_set (first + 7)) (omega arith))
    k low

one_byte : (byte k : ℕ) → k < 8 → bit_of (byte ∷ []) k ≡ (bit_at byte (7 - k) == 1)
unfolding bit_of
one_byte byte k low =
    ap (λ (i : ℕ). bit_at (get_or (byte ∷ []) i 0) (7 - k % 8) == 1) {x = k / 8} {y = 0} (omega arith)
    ∙ ap (λ (i : ℕ). bit_at byte (7 - i) == 1) {x = k % 8} {y = k} (omega arith)

-- each number's bit is read back
pub bit_of-bits_bytes : (is_set : ℕ → Bool) (first count k : ℕ) → k < 8 * count → bit_of (bits_bytes is_set first count) k ≡ is_set (first + k)
unfolding bits_bytes
bit_of-bits_bytes is_set first zero k within = absurd (omega arith)
bit_of-bits_bytes is_set first (suc count) k within =
    let byte : ℕ = bits_byte is_set first in
    let rest : List ℕ = bits_bytes is_set (first + 8) count in
    ⊎_elim
    (λ low. bits_left (byte ∷ []) rest k (omega arith) ∙ one_byte byte k low ∙ byte_bits is_set first k low)
    (λ high.
    bits_right (byte ∷ []) rest k (k - 8) (omega arith) ∙ bit_of-bits_bytes is_set (first + 8) count (k - 8) (omega arith)
    ∙ ap is_set {x = first + 8 + (k - 8)} {y = first + k} (omega arith))
    (cases_lt k 8)

-- and behind the bytes there is none
pub bit_of-bits_bytes_behind : (is_set : ℕ → Bool) (first count k : ℕ) → 8 * count ≤ k → bit_of (bits_bytes is_set first count) k ≡ false
bit_of-bits_bytes_behind is_set first count k behind = bit_past (bits_bytes is_set first count) k (omega (arith, length-bits_bytes is_set first count))
