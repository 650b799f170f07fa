-- How a name is printed.
use Rattle.std.specs.Prelude.{ℕ, ◌==◌, ◌&&◌, ◌||◌, not, nat_le, nat_lt, Bool, List, [], ◌∷◌, map, slice_set, bytes_eq, if◌then◌else◌}
use Rattle.std.specs.List.{list_all}
use Rattle.std.specs.Char.Utf16.{has_unpaired_surrogate, utf16_lossy_chars}
use Rattle.unicode_normalization.specs.Forms.{Nfd, is_in_form}
use Rattle.name_text.specs.declared.piece.Piece.{Piece}
use Rattle.name_text.specs.declared.piece.Piece.TheVariants.{Character, Escaped}
use Rattle.name_text.specs.Spelling.{text_of}

-- neither a control unit nor a space nor `/`
abbrev pub is_clear : ℕ → Bool
is_clear u = nat_lt 32 u && not (u == 127) && not (u == 47)

-- `.` or `..`
abbrev pub is_dots : List ℕ → Bool
is_dots units = bytes_eq units (46 ∷ []) || bytes_eq units (46 ∷ 46 ∷ [])

-- the name is printed as its text: it is valid UTF-16 in NFD, each unit is clear, and it isn't `.` or `..`
unfoldable pub is_plain : List ℕ → Bool
is_plain units = list_all is_clear units && not (is_dots units) && not (has_unpaired_surrogate units) && is_in_form Nfd (utf16_lossy_chars units)

-- how a unit is printed in a name that isn't plain: as it is where it is printable ASCII and no `/`, else escaped
abbrev pub unit_piece : ℕ → Piece
unit_piece u = if nat_le 33 u && nat_le u 126 && not (u == 47) then Character u else Escaped u

-- the pieces that a name is printed by; of `.` and `..` the first unit is escaped
unfoldable pub printed : List ℕ → List Piece
printed units =
    if is_plain units then map Character (utf16_lossy_chars units)
    else (if is_dots units then slice_set (map unit_piece units) 0 (Escaped 46) else map unit_piece units)

-- the text of a name
unfoldable pub component_text : List ℕ → List ℕ
component_text units = text_of (printed units)
