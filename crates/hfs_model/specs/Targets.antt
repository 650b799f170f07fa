-- The texts of symbolic links.
use Rattle.std.specs.Prelude.{ℕ, ◌==◌, ◌&&◌, nat_le, Bool, false, List, [], ◌∷◌, length, map, chars}
use Rattle.std.specs.List.{flat_map, list_all, slice_split}
use Rattle.std.specs.Str.{is_utf8}
use Rattle.std.specs.Char.Escape.{encode_utf16}
use Rattle.unicode_normalization.specs.Forms.{nfd}

-- how many bytes a target has at most
abbrev pub most_target : ℕ
most_target = 1023

-- the units of a component, in which no escape is read
abbrev pub component_units : List ℕ → List ℕ
component_units text = flat_map encode_utf16 (nfd (chars text))

-- the components of a target, which a slash separates
abbrev pub components_of : List ℕ → List (List ℕ)
components_of bytes = map component_units (slice_split (λ b. b == 47) bytes)

-- each component has at most 255 units
abbrev pub are_short : List (List ℕ) → Bool
are_short components = list_all (λ units. nat_le (length units) 255) components

-- From 1 to 1,023 bytes of UTF-8, whose components have at most 255 units
unfoldable pub is_target : List ℕ → Bool
is_target bytes = (nat_le 1 (length bytes) && nat_le (length bytes) most_target) && (is_utf8 bytes && are_short (components_of bytes))

-- the text begins at the root
abbrev pub is_from_root : List ℕ → Bool
is_from_root [] = false
is_from_root (byte ∷ bytes) = byte == 47
