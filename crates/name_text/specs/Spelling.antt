-- How a name is spelled: piece by piece, each a character or an escaped code unit.
use Rattle.std.specs.Prelude.{ℕ, ◌/◌, ◌%◌, ◌<◌, ◌^◌, ◌==◌, true, List, [], ◌∷◌, flat_map, if◌then◌else◌}
use Rattle.std.specs.Fmt.{digit_glyph}
use Rattle.name_text.specs.declared.piece.Piece.{Piece}
use Rattle.name_text.specs.declared.piece.Piece.TheVariants.{Character, Escaped}

-- the percent sign
abbrev pub percent : ℕ
percent = 37

-- a code unit as four upper-case hexadecimal digits
abbrev pub hex_digits : ℕ → List ℕ
hex_digits u = digit_glyph true (u / 4096 % 16) ∷ digit_glyph true (u / 256 % 16) ∷ digit_glyph true (u / 16 % 16) ∷ digit_glyph true (u % 16) ∷ []

-- the characters that spell a piece: a percent sign is doubled, and an escape is `%u` with four digits
abbrev pub spelling : Piece → List ℕ
spelling (Character c) = if c == percent then percent ∷ percent ∷ [] else c ∷ []
spelling (Escaped u) = percent ∷ 117 ∷ hex_digits u

-- the text that pieces spell
abbrev pub text_of : List Piece → List ℕ
text_of = flat_map spelling

-- an escape names a code unit
abbrev pub IsPiece : Piece → Type 0
IsPiece (Character c) = Unit {0}
IsPiece (Escaped u) = u < 2 ^ 16
