-- A table of how each byte is spelled in a value.
use Rattle.std.specs.Prelude.{◌≡◌, ◌<◌, ◌/◌, ◌%◌, ℕ, List, [], ◌∷◌, true, if◌then◌else◌, slice_index_or}
use Rattle.std.specs.Fmt.{digit_glyph}
use Rattle.hfs_language.specs.Text.{is_plain}

-- the one byte or the three that spell a byte, filled up with zeros to three, and how many they are
abbrev pub entry : ℕ → List ℕ
entry b = if is_plain b then b ∷ 0 ∷ 0 ∷ 1 ∷ [] else 37 ∷ digit_glyph true (b / 16 % 16) ∷ digit_glyph true (b % 16) ∷ 3 ∷ []

-- a table has the entry of each byte
abbrev pub AreSpellings : List (List ℕ) → Type 0
AreSpellings table = (b : ℕ) → b < 256 → slice_index_or table b [] ≡ entry b
