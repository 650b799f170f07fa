-- A byte is the byte of its bits.
use Rattle.std.proofs.Common.{◌≡◌, ◌≢◌, ℕ, ◌+◌, ◌-◌, ◌*◌, ◌/◌, ◌%◌, ◌<◌, true, false, ◌==◌, List, sym, ◌∙◌, ap, arith, ⊎_elim}
use Rattle.std.specs.Prelude.{slice_index}
use Rattle.std.specs.Int.{bit_at}
use Rattle.std.proofs.lemmas.Bool.Decides.{eqb_tells}
use Rattle.hx_bytes.specs.Field.{AreBytes}
use Rattle.flag_rows.specs.Bits.{bit_of}
use Rattle.hfs_volume.specs.Broken.{bit}
use Rattle.volume_repair.specs.Repair.{byte_of_bits}

-- a number that is 0 or 1, as a test and back
bit_back : (n : ℕ) → n < 2 → bit (n == 1) ≡ n
bit_back n small = ⊎_elim
    (λ (one : (n == 1 ≡ true) × (n ≡ 1)). ap bit one.0 ∙ sym one.1)
    (λ (none : (n == 1 ≡ false) × (n ≢ 1)). ap bit none.0 ∙ omega (arith, small, none.1))
    (eqb_tells n 1)

-- bit i of byte j
bit_here : (bytes : List ℕ) (j i : ℕ) → i < 8 → bit (bit_of bytes (8 * j + i)) ≡ bit_at (slice_index bytes j) (7 - i)
unfolding bit_of
bit_here bytes j i small =
    ap (λ k. bit (bit_at (slice_index bytes k) (7 - (8 * j + i) % 8) == 1)) (let whole : (8 * j + i) / 8 ≡ j = omega (arith, small) in whole)
    ∙ ap (λ k. bit (bit_at (slice_index bytes j) (7 - k) == 1)) (let rest : (8 * j + i) % 8 ≡ i = omega (arith, small) in rest)
    ∙ bit_back (bit_at (slice_index bytes j) (7 - i)) (bit_small (slice_index bytes j) (7 - i))
  where
    bit_small : (x k : ℕ) → bit_at x k < 2
    bit_small x k = omega arith

eight : (x : ℕ) → x < 256 → 128 * bit_at x 7 + 64 * bit_at x 6 + 32 * bit_at x 5 + 16 * bit_at x 4 + 8 * bit_at x 3 + 4 * bit_at x 2 + 2 * bit_at x 1 + bit_at x 0 ≡ x
eight x small = omega (arith, small)

pub byte_back : (bytes : List ℕ) (j : ℕ) → AreBytes bytes → byte_of_bits (bit_of bytes) j ≡ slice_index bytes j
byte_back bytes j are = omega (arith, eight (slice_index bytes j) (are j), first, bit_here bytes j 1 (omega arith), bit_here bytes j 2 (omega arith), bit_here bytes j 3 (omega arith), bit_here bytes j 4 (omega arith), bit_here bytes j 5 (omega arith), bit_here bytes j 6 (omega arith), bit_here bytes j 7 (omega arith))
  where
    first : bit (bit_of bytes (8 * j)) ≡ bit_at (slice_index bytes j) 7
    first = let same : 8 * j ≡ 8 * j + 0 = omega arith in ap (λ k. bit (bit_of bytes k)) same ∙ bit_here bytes j 0 (omega arith)
