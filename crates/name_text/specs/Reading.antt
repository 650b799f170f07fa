-- How the text of a component is read to the units of a name.
use Rattle.std.specs.Prelude.{ℕ, ◌+◌, ◌*◌, ◌-◌, ◌%◌, ◌==◌, ◌||◌, ◌&&◌, nat_lt, nat_le, Bool, true, false, List, [], ◌∷◌, ◌++◌, length, map, flat_map, Option, Some, None, option_to_list, Result, Ok, Err, bytes_eq, if◌then◌else◌}
use Rattle.std.specs.Option.{option_map}
use Rattle.std.specs.List.{list_any}
use Rattle.std.specs.Char.Escape.{encode_utf16}
use Rattle.unicode_normalization.specs.Forms.{nfd}
use Rattle.name_text.specs.declared.piece.Piece.{Piece}
use Rattle.name_text.specs.declared.piece.Piece.TheVariants.{Character, Escaped}
use Rattle.name_text.specs.declared.piece.NameFault.{NameFault}
use Rattle.name_text.specs.declared.piece.NameFault.TheVariants.{BadName, NameTooLong}
use Rattle.name_text.specs.declared.pieces.Place.{Place}
use Rattle.name_text.specs.declared.pieces.Place.TheVariants.{Between, Percent, Digits}
use Rattle.name_text.specs.Spelling.{percent}

-- the value of an upper-case hexadecimal digit
abbrev pub hex_digit : ℕ → Option ℕ
hex_digit c = if nat_le 48 c && nat_le c 57 then Some (c - 48) else (if nat_le 65 c && nat_le c 70 then Some (c - 55) else None)

-- after one more digit of an escape
abbrev pub after_digit : ℕ → ℕ → Option (Place × Option Piece)
after_digit more unit = if more == 0 then Some (Between, Some (Escaped unit)) else Some (Digits (more - 1) unit, None)

-- the same where the character may be no digit
abbrev pub with_digit : ℕ → ℕ → Option ℕ → Option (Place × Option Piece)
with_digit more value None = None
with_digit more value (Some digit) = after_digit more ((value * 16 + digit) % 65536)

-- the place after a character, with the piece that ends there; none where the character breaks the spelling
unfoldable pub step : Place → ℕ → Option (Place × Option Piece)
step Between c = if c == percent then Some (Percent, None) else Some (Between, Some (Character c))
step Percent c = if c == percent then Some (Between, Some (Character percent)) else (if c == 117 then Some (Digits 3 0, None) else None)
step (Digits more value) c = with_digit more value (hex_digit c)

-- the piece that ended, if any did, before those of the rest
abbrev pub then_rest : Option (Place × Option Piece) → (Place → Option (List Piece)) → Option (List Piece)
then_rest None rest = None
then_rest (Some next) rest = option_map (λ pieces. option_to_list next.1 ++ pieces) (rest next.0)

-- the pieces of the rest of a text that is read from a place on
abbrev pub pieces_from : Place → List ℕ → Option (List Piece)
pieces_from Between [] = Some []
pieces_from Percent [] = None
pieces_from (Digits more value) [] = None
pieces_from place (c ∷ rest) = then_rest (step place c) (λ next. pieces_from next rest)

-- the pieces that a text spells, where it spells any
abbrev pub pieces : List ℕ → Option (List Piece)
pieces text = pieces_from Between text

-- whether a piece of a name is written as an escape
abbrev pub is_escaped : Piece → Bool
is_escaped (Character c) = false
is_escaped (Escaped u) = true

-- the character of a piece, as a number
abbrev pub code : Piece → ℕ
code (Character c) = c
code (Escaped u) = u

-- the units of one piece in UTF-16
abbrev pub piece_units : Piece → List ℕ
piece_units (Character c) = encode_utf16 c
piece_units (Escaped u) = u ∷ []

-- the units of a name: with an escape those of each piece, and without one the text is brought to NFD first
unfoldable pub units_of : List Piece → List ℕ
units_of pieces =
    if list_any is_escaped pieces then flat_map piece_units pieces else flat_map encode_utf16 (nfd (map code pieces))

-- no name is spelled so: nothing, `.`, `..`, and what has a `/`
unfoldable pub is_reserved : List ℕ → Bool
is_reserved text = bytes_eq text [] || bytes_eq text (46 ∷ []) || bytes_eq text (46 ∷ 46 ∷ []) || list_any (λ c. c == 47) text

-- a name has at most 255 units
abbrev pub within_length : List ℕ → Result (List ℕ) NameFault
within_length units = if nat_lt 255 (length units) then Err NameTooLong else Ok units

-- the name of the pieces that a text was cut into; a text that can't be cut is no name
abbrev pub name_of_pieces : Option (List Piece) → Result (List ℕ) NameFault
name_of_pieces None = Err BadName
name_of_pieces (Some pieces) = within_length (units_of pieces)

-- the name that a component's characters spell, or why they spell none
unfoldable pub component : List ℕ → Result (List ℕ) NameFault
component text = if is_reserved text then Err BadName else name_of_pieces (pieces text)
