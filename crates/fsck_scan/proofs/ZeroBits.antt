-- The zeros at the end of a map, which are for no node.
use Rattle.std.proofs.Common.{◌≡◌, ◌<◌, ◌≤◌, ◌+◌, ◌-◌, ◌*◌, ◌/◌, ℕ, Bool, false, List, length, get_or, sym, ◌∙◌, ap, arith}
use Rattle.std.proofs.lemmas.List.{get_or_past}
use Rattle.flag_rows.specs.Bits.{bit_of}
use Rattle.flag_rows.proofs.ByteLaws.{bits_empty}

-- a byte of zeros, which is for no node
pub no_node : (bits : List ℕ) (marks : List Bool) (count n : ℕ) → get_or bits (count - 1) 0 ≡ 0 → length marks / 8 + 1 ≤ count - 1 → 8 * (count - 1) ≤ n → n < 8 * count → bit_of bits n ≡ get_or marks n false
no_node bits marks count n zero past from to =
    let byte : n / 8 ≡ count - 1 = omega (arith, past, from, to) in
    bits_empty bits n (ap (λ j. get_or bits j 0) byte ∙ zero) ∙ sym (get_or_past marks n false (omega (arith, past, from)))
