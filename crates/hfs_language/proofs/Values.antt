-- A value is read where it is spelled.
use Rattle.std.proofs.Common.{◌≡◌, ℕ, suc, ◌/◌, ◌%◌, ◌<◌, true, List, [], ◌∷◌, ◌++◌, drop, get_or, Ok, Err, bytes_eq, refl, ap, ◌∙◌, arith}
use Rattle.std.specs.List.{flat_map}
use Rattle.std.specs.Fmt.{digit_glyph}
use Rattle.std.specs.Cmp.Lexicographic.{bytes_decides}
use Rattle.std.proofs.lemmas.Bool.{cond_both, cond-true}
use Rattle.std.proofs.lemmas.Bool.Decides.{nat_tests}
use Rattle.percent_encoding.specs.Percent.{percent_encode_byte, percent_decode}
use Rattle.percent_encoding.proofs.PercentLemmas.{percent_decode-nil, percent_decode_not_percent, percent_decode-percent_encode_byte}
use Rattle.hfs_language.specs.declared.refusal.Refusal.TheVariants.{BadCommand}
use Rattle.hfs_language.specs.Text.{is_plain, byte_text, value_text}
use Rattle.hfs_language.specs.Language.{value_of}
use Rattle.hfs_language.specs.Spelling.{IsReadAsValue}

abbrev AreBytes : List ℕ → Type 0
AreBytes [] = Unit {0}
AreBytes (b ∷ bytes) = (b < 256) × AreBytes bytes

bytes_by_index : (bytes : List ℕ) → ((k : ℕ) → get_or bytes k 0 < 256) → AreBytes bytes
bytes_by_index [] each = tt
bytes_by_index (b ∷ bytes) each = (each 0, bytes_by_index bytes (λ k. each (suc k)))

escaped_back : (b : ℕ) (rest : List ℕ) → b < 256 → percent_decode ((37 ∷ digit_glyph true (b / 16 % 16) ∷ digit_glyph true (b % 16) ∷ []) ++ rest) ≡ b ∷ percent_decode rest
unfolding percent_encode_byte
escaped_back b rest small = percent_decode-percent_encode_byte b rest small

byte_back : (b : ℕ) (rest : List ℕ) → b < 256 → percent_decode (byte_text b ++ rest) ≡ b ∷ percent_decode rest
byte_back b rest small =
    cond_both (is_plain b) (b ∷ []) (37 ∷ digit_glyph true (b / 16 % 16) ∷ digit_glyph true (b % 16) ∷ []) (λ x. percent_decode (x ++ rest) ≡ b ∷ percent_decode rest)
    (λ plain. percent_decode_not_percent b rest (λ percent. grind (arith, nat_tests)))
    (λ _. escaped_back b rest small)

bytes_back : (bytes : List ℕ) → AreBytes bytes → percent_decode (flat_map byte_text bytes) ≡ bytes
bytes_back [] are = percent_decode-nil
bytes_back (b ∷ bytes) are = byte_back b (flat_map byte_text bytes) are.0 ∙ ap (λ x. b ∷ x) (bytes_back bytes are.1)

pub value_back : (bytes : List ℕ) → ((k : ℕ) → get_or bytes k 0 < 256) → value_of (value_text bytes) ≡ Ok bytes
unfolding value_of
value_back bytes each =
    let back = bytes_back bytes (bytes_by_index bytes each) in
    rw back (cond-true _ _ _ ((bytes_decides (value_text bytes) (value_text bytes)).1 refl))

pub value_spelled : (word value : List ℕ) → IsReadAsValue word value
unfolding value_of
value_spelled word value =
    let v = percent_decode (drop 1 word) in
    cond_both (bytes_eq word (value_text v)) (Ok v) (Err BadCommand) (λ r. r ≡ Ok value → word ≡ value_text value)
    (λ test is. let same : v ≡ value = cc in (bytes_decides word (value_text v)).0 test ∙ ap value_text same)
    (λ _ never. absurd (cc))
