-- What the line of a `write` spells, whose value is in its one spelling.
use Rattle.std.proofs.Common.{◌≡◌, ◌==◌, ◌≤◌, ◌<◌, ◌++◌, ◌∷◌, [], ℕ, zero, suc, ◌/◌, ◌%◌, true, false, List, Result, Ok, length, refl, ◌∙◌, ap, arith}
use Rattle.std.specs.Prelude.{nat_lt, codes}
use Rattle.std.specs.Fmt.{digit_glyph}
use Rattle.std.specs.List.{flat_map, slice_split}
use Rattle.std.specs.Str.{IsAscii, IsUtf8, is_utf8}
use Rattle.std.proofs.lemmas.Bool.{cond_both, cond-false, cond-true}
use Rattle.std.proofs.lemmas.Bool.Decides.{nat_tests}
use Rattle.std.proofs.lemmas.List.Elements.{All-append, All-cons, All-nil}
use Rattle.std.proofs.lemmas.List.Splits.{slice_split_at, slice_split_none}
use Rattle.std.proofs.lemmas.Str.{IsUtf8-append, IsUtf8-from_ascii, is_utf8-from_IsUtf8}
use Rattle.hfs_language.specs.Language.{after, both, command_of, number_of, path_of, value_of, words_command}
use Rattle.hfs_language.specs.Text.{byte_text, is_plain, value_text}
use Rattle.hfs_language.specs.declared.refusal.Refusal.{Refusal}
use Rattle.hfs_language.specs.declared.command.Command.TheVariants.{Write}
use Rattle.hfs_language.proofs.Values.{value_back}
use Rattle.cmd_lang.specs.Written.{HasNoSpace, IsSpelledWrite, IsWrite, SpellsValue}

-- ---- the text of a value

-- an ASCII character that is no space
abbrev IsLetter : ℕ → Type 0
IsLetter b = (b < 128) × ((b == 32) ≡ false)

digit_is_letter : (d : ℕ) → d < 16 → IsLetter (digit_glyph true d)
digit_is_letter d small = (grind (arith, nat_tests), grind (arith, nat_tests))

abbrev IsWord : List ℕ → Type 0
IsWord text = IsUtf8 text × HasNoSpace text

one_is_word : (b : ℕ) → IsLetter b → IsWord (b ∷ [])
one_is_word b letter = (IsUtf8-from_ascii (b ∷ []) ascii, All-cons (λ b. (b == 32) ≡ false) b [] letter.1 (All-nil (λ b. (b == 32) ≡ false)))
  where
    ascii : IsAscii (b ∷ [])
    ascii zero = letter.0
    ascii (suc k) = omega arith

both_are_word : (xs ys : List ℕ) → IsWord xs → IsWord ys → IsWord (xs ++ ys)
both_are_word xs ys one other = (IsUtf8-append xs ys one.0 other.0, All-append (λ b. (b == 32) ≡ false) xs ys one.1 other.1)

byte_is_word : (b : ℕ) → IsWord (byte_text b)
byte_is_word b =
    cond_both (is_plain b) (b ∷ []) (37 ∷ digit_glyph true (b / 16 % 16) ∷ digit_glyph true (b % 16) ∷ []) IsWord
    (λ plain. one_is_word b (grind (arith, nat_tests), grind (arith, nat_tests)))
    (λ _. both_are_word (37 ∷ []) (digit_glyph true (b / 16 % 16) ∷ digit_glyph true (b % 16) ∷ []) (one_is_word 37 (omega arith, refl))
    (both_are_word (digit_glyph true (b / 16 % 16) ∷ []) (digit_glyph true (b % 16) ∷ []) (one_is_word (digit_glyph true (b / 16 % 16)) (digit_is_letter (b / 16 % 16) (omega arith))) (one_is_word (digit_glyph true (b % 16)) (digit_is_letter (b % 16) (omega arith)))))

bytes_are_word : (value : List ℕ) → IsWord (flat_map byte_text value)
bytes_are_word [] = (IsUtf8-from_ascii [] (λ k. omega arith), All-nil (λ b. (b == 32) ≡ false))
bytes_are_word (b ∷ value) = both_are_word (byte_text b) (flat_map byte_text value) (byte_is_word b) (bytes_are_word value)

value_is_word : (value : List ℕ) → IsWord (value_text value)
value_is_word value = both_are_word (61 ∷ []) (flat_map byte_text value) (one_is_word 61 (omega arith, refl)) (bytes_are_word value)

verb_is_word : IsWord (codes "write")
verb_is_word =
    both_are_word (119 ∷ []) (114 ∷ 105 ∷ 116 ∷ 101 ∷ []) (one_is_word 119 (omega arith, refl))
    (both_are_word (114 ∷ []) (105 ∷ 116 ∷ 101 ∷ []) (one_is_word 114 (omega arith, refl))
    (both_are_word (105 ∷ []) (116 ∷ 101 ∷ []) (one_is_word 105 (omega arith, refl))
    (both_are_word (116 ∷ []) (101 ∷ []) (one_is_word 116 (omega arith, refl)) (one_is_word 101 (omega arith, refl)))))

space_is_text : IsUtf8 (32 ∷ [])
space_is_text = IsUtf8-from_ascii (32 ∷ []) ascii
  where
    ascii : IsAscii (32 ∷ [])
    ascii zero = omega arith
    ascii (suc k) = omega arith

spaced : (xs ys : List ℕ) → IsUtf8 xs → IsUtf8 ys → IsUtf8 (xs ++ 32 ∷ ys)
spaced xs ys one other = IsUtf8-append xs (32 ∷ ys) one (IsUtf8-append (32 ∷ []) ys space_is_text other)

-- ---- the line

module _ (line path from last value : List ℕ) (is : IsWrite line path from last) (spells : SpellsValue last value) where
  last_is_word : IsWord last
  last_is_word = rw (spells.0) (value_is_word value)

  line_is_text : is_utf8 line ≡ true
  line_is_text =
      ap is_utf8 is.whole ∙ is_utf8-from_IsUtf8 (codes "write" ++ 32 ∷ (path ++ 32 ∷ (from ++ 32 ∷ last)))
      (spaced (codes "write") (path ++ 32 ∷ (from ++ 32 ∷ last)) (verb_is_word.0) (spaced path (from ++ 32 ∷ last) is.path_is_text (spaced from last is.from_is_text (last_is_word.0))))

  line_words : slice_split (λ b. b == 32) line ≡ codes "write" ∷ path ∷ from ∷ last ∷ []
  line_words =
      ap (slice_split (λ b. b == 32)) is.whole
      ∙ slice_split_at (λ b. b == 32) (codes "write") 32 (path ++ 32 ∷ (from ++ 32 ∷ last)) (verb_is_word.1) refl
      ∙ ap (λ (l : List (List ℕ)). codes "write" ∷ l)
      (slice_split_at (λ b. b == 32) path 32 (from ++ 32 ∷ last) is.path_is_word refl
      ∙ ap (λ (l : List (List ℕ)). path ∷ l)
      (slice_split_at (λ b. b == 32) from 32 last is.from_is_word refl
      ∙ ap (λ (l : List (List ℕ)). from ∷ l) (slice_split_none (λ b. b == 32) last (last_is_word.1))))

  value_read : value_of last ≡ Ok value
  value_read = ap value_of (spells.0) ∙ value_back value (spells.1)

  write_spelled : length line ≤ 140000 → command_of line ≡ after (λ p. Write p.0 p.1.0 p.1.1) (both (path_of path) (both (number_of from) (Ok value)))
  unfolding command_of
  write_spelled short =
      let within : nat_lt 140000 (length line) ≡ false = grind (arith, nat_tests, short) in
      cond-false _ _ _ within ∙ cond-true _ _ _ line_is_text ∙ ap words_command line_words
      ∙ ap (λ (v : Result (List ℕ) Refusal). after (λ p. Write p.0 p.1.0 p.1.1) (both (path_of path) (both (number_of from) v))) value_read

pub write_read : (line path from value : List ℕ) → IsSpelledWrite line path from value → length line ≤ 140000 → command_of line ≡ after (λ p. Write p.0 p.1.0 p.1.1) (both (path_of path) (both (number_of from) (Ok value)))
write_read line path from value is short = write_spelled line path from is.0 value is.1 is.2 short

-- a word that is the text of a value spells it
pub value_known : (word value : List ℕ) → SpellsValue word value → value_of word ≡ Ok value
value_known word value spells = ap value_of spells.0 ∙ value_back value spells.1
