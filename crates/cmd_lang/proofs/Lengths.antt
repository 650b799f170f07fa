-- How long the text of a value is.
use Rattle.std.proofs.Common.{◌≡◌, ◌++◌, ◌∷◌, [], ℕ, ◌/◌, ◌%◌, ◌<◌, ◌≤◌, Bool, true, false, List, length, nat_lt, sym, ◌∙◌, arith}
use Rattle.std.specs.Fmt.{digit_glyph}
use Rattle.std.specs.List.{flat_map}
use Rattle.std.proofs.lemmas.Bool.{cond_both}
use Rattle.std.proofs.lemmas.Bool.Decides.{nat_tests}
use Rattle.std.proofs.lemmas.List.{length-append}
use Rattle.hfs_language.specs.Text.{is_plain, byte_text, value_text}

byte_is_spelled : (b : ℕ) → 1 ≤ length (byte_text b)
byte_is_spelled b =
    cond_both (is_plain b) (b ∷ []) (37 ∷ digit_glyph true (b / 16 % 16) ∷ digit_glyph true (b % 16) ∷ []) (λ (l : List ℕ). 1 ≤ length l) (λ _. omega arith) (λ _. omega arith)

spelled_no_shorter : (value : List ℕ) → length value ≤ length (flat_map byte_text value)
spelled_no_shorter [] = omega arith
spelled_no_shorter (b ∷ value) = omega (arith, byte_is_spelled b, spelled_no_shorter value, length-append (byte_text b) (flat_map byte_text value))

pub too_long_value : (head value : List ℕ) → 140000 < length value → true ≡ nat_lt 140000 (length (head ++ value_text value))
too_long_value head value long =
    let more : 140000 < length (head ++ value_text value) = omega (arith, long, spelled_no_shorter value, length-append head (value_text value)) in
    grind (arith, nat_tests, more)

pub short_enough : (n : ℕ) (answer : Bool) → answer ≡ nat_lt 140000 n → answer ≡ false → n ≤ 140000
short_enough n answer is isnt =
    let test : nat_lt 140000 n ≡ false = sym is ∙ isnt in
    grind (arith, nat_tests, test)
