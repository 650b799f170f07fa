-- How many bits of a byte are set, and of bytes one behind another.
use Rattle.std.proofs.Common.{◌≡◌, ◌<◌, ◌≤◌, ℕ, zero, suc, ◌+◌, ◌-◌, ◌*◌, ◌/◌, ◌%◌, ◌^◌, Bool, cond, ◌==◌, List, [], sym, ◌∙◌, ap, arith, ⊎_elim}
use Rattle.std.specs.Prelude.{slice_index}
use Rattle.std.specs.List.{count_by, range_with_len}
use Rattle.std.specs.Int.{bit_at}
use Rattle.std.specs.Int.RustNames.{count_ones}
use Rattle.std.proofs.lemmas.Bool.{cases_lt}
use Rattle.std.proofs.lemmas.Nat.{ones_cat, ones_le_self, zero_from_ones}
use Rattle.std.proofs.lemmas.Nat.Bits.{bit_at-suc, bit_at_lowest}
use Rattle.std.proofs.lemmas.List.Sums.{sum_by-cons}
use Rattle.flag_rows.specs.Bits.{bit_of}
use Rattle.fsck_core.proofs.BehindLaws.{same_on, split_count}

low_bit : (r : ℕ) → r < 2 → cond (r == 1) 1 0 ≡ count_ones r
low_bit zero less = omega (arith, ones_le_self 0)
low_bit (suc zero) less = ⊎_elim
    (λ (some : 0 < count_ones 1). omega (arith, some, ones_le_self 1))
    (λ (none : count_ones 1 ≤ 0). absurd (let no_one : 1 ≡ 0 = zero_from_ones 1 (omega (arith, none)) in omega (arith, no_one)))
    (cases_lt 0 (count_ones 1))
low_bit (suc (suc r)) less = absurd (omega (arith, less))

one_on : (p : ℕ → Bool) (a : ℕ) → count_by p (range_with_len a 1) ≡ cond (p a) 1 0
one_on p a = sum_by-cons (λ k. cond (p k) 1 0) a [] ∙ omega arith

-- the bits of a number of so many digits, from the highest on
ones_bits : (n b : ℕ) → b < 2 ^ n → count_by (λ i. bit_at b (n - 1 - i) == 1) (range_with_len 0 n) ≡ count_ones b
ones_bits zero b small = omega (arith, small, ones_le_self b)
ones_bits (suc n) b small =
    let double : 2 ^ suc n ≡ 2 * 2 ^ n = omega arith in
    let half : b / 2 < 2 ^ n = omega (arith, small, double) in
    let p : ℕ → Bool = λ i. bit_at b (suc n - 1 - i) == 1 in
    let q : ℕ → Bool = λ i. bit_at (b / 2) (n - 1 - i) == 1 in
    let high : count_by p (range_with_len 0 n) ≡ count_ones (b / 2) = same_on p q 0 0 n (λ i less.
    let place : suc n - 1 - (0 + i) ≡ suc (n - 1 - (0 + i)) = omega (arith, less) in
    ap (λ k. bit_at b k == 1) place ∙ ap (λ m. m == 1) (bit_at-suc b (n - 1 - (0 + i)))) ∙ ones_bits n (b / 2) half in
    let first : 0 + n ≡ n = omega arith in
    let last_place : suc n - 1 - n ≡ 0 = omega arith in
    let low : count_by p (range_with_len (0 + n) 1) ≡ count_ones (b % 2) = one_on p (0 + n) ∙ ap (λ k. cond (p k) 1 0) first
    ∙ ap (λ k. cond (bit_at b k == 1) 1 0) last_place ∙ ap (λ m. cond (m == 1) 1 0) (bit_at_lowest b) ∙ low_bit (b % 2) (omega arith) in
    let more : suc n ≡ n + 1 = omega arith in
    let whole : b / 2 * 2 ^ 1 + b % 2 ≡ b = omega arith in
    ap (λ m. count_by p (range_with_len 0 m)) more ∙ split_count p 0 n 1 ∙ (λ i. high i + low i) ∙ sym (ones_cat 1 (b / 2) (b % 2) (omega arith)) ∙ ap count_ones whole

-- the bits of one of some bytes
byte_bits : (bytes : List ℕ) (k b : ℕ) → slice_index bytes k ≡ b → b < 256 → count_by (bit_of bytes) (range_with_len (8 * k) 8) ≡ count_ones b
unfolding bit_of
byte_bits bytes k b is small = same_on (bit_of bytes) (λ i. bit_at b (8 - 1 - i) == 1) (8 * k) 0 8 (λ i less.
    let place : (8 * k + i) / 8 ≡ k = omega (arith, less) in
    let digit : 7 - (8 * k + i) % 8 ≡ 8 - 1 - (0 + i) = omega (arith, less) in
    (λ j. bit_at (slice_index bytes (place j)) (digit j) == 1) ∙ ap (λ n. bit_at n (8 - 1 - (0 + i)) == 1) is) ∙ ones_bits 8 b small

-- one byte more
pub byte_more : (bytes : List ℕ) (k b old new : ℕ) → slice_index bytes k ≡ b → b < 256 → old ≡ count_by (bit_of bytes) (range_with_len 0 (8 * k)) → new ≡ old + count_ones b
    → new ≡ count_by (bit_of bytes) (range_with_len 0 (8 * (k + 1)))
byte_more bytes k b old new is small was sum =
    let more : 8 * k + 8 ≡ 8 * (k + 1) = omega arith in
    let first : 8 * k ≡ 0 + 8 * k = omega arith in
    sum ∙ (λ i. was i + (sym (byte_bits bytes k b is small) ∙ ap (λ m. count_by (bit_of bytes) (range_with_len m 8)) first) i)
    ∙ sym (split_count (bit_of bytes) 0 (8 * k) 8) ∙ ap (λ m. count_by (bit_of bytes) (range_with_len 0 m)) more
