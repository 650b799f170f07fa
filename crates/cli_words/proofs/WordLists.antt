-- Lists of words of a known length.
use Rattle.std.proofs.Common.{◌≡◌, [], ◌∷◌, List, length, get_or, arith, String, Global}
use Rattle.std.specs.Prelude.{string_bytes}
use Rattle.cli_words.specs.Words.{texts}

pub two_words : (words : List (String Global)) (a b : String Global) → length words ≡ 2 → a ≡ get_or words 0 a → b ≡ get_or words 1 b → texts words ≡ string_bytes a ∷ string_bytes b ∷ []
two_words [] a b two first second = absurd (omega (arith, two))
two_words (x ∷ []) a b two first second = absurd (omega (arith, two))
two_words (x ∷ y ∷ []) a b two first second = cc (first, second)
two_words (x ∷ y ∷ z ∷ words) a b two first second = absurd (omega (arith, two))

pub three_words : (words : List (String Global)) (a b d : String Global) → length words ≡ 3 → a ≡ get_or words 0 a → b ≡ get_or words 1 b → d ≡ get_or words 2 d → texts words ≡ string_bytes a ∷ string_bytes b ∷ string_bytes d ∷ []
three_words [] a b d three first second third = absurd (omega (arith, three))
three_words (x ∷ []) a b d three first second third = absurd (omega (arith, three))
three_words (x ∷ y ∷ []) a b d three first second third = absurd (omega (arith, three))
three_words (x ∷ y ∷ z ∷ []) a b d three first second third = cc (first, second, third)
three_words (x ∷ y ∷ z ∷ w ∷ words) a b d three first second third = absurd (omega (arith, three))
