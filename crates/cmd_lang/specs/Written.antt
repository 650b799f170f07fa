-- A `write` whose value is in its one spelling.
use Rattle.std.specs.Prelude.{◌≡◌, ◌==◌, ◌++◌, ◌∷◌, ℕ, List, false, codes, take}
use Rattle.std.specs.List.{All, flat_map}
use Rattle.std.specs.Str.{IsUtf8}
use Rattle.hx_bytes.specs.Field.{AreBytes}
use Rattle.hfs_language.specs.Text.{byte_text, value_text}

-- none of these bytes is a space
abbrev pub HasNoSpace : List ℕ → Type 0
HasNoSpace bytes = All (λ b. (b == 32) ≡ false) bytes

-- A line has four words: `write`, a path, a place, and one more.
pub record IsWrite (line path from last : List ℕ) : Type 0 where
  pub whole : line ≡ codes "write " ++ (path ++ 32 ∷ (from ++ 32 ∷ last))
  pub path_is_word : HasNoSpace path
  pub path_is_text : IsUtf8 path
  pub from_is_word : HasNoSpace from
  pub from_is_text : IsUtf8 from

-- a text spells bytes, each in its one spelling
abbrev pub Spells : List ℕ → List ℕ → Type 0
Spells text bytes = (text ≡ flat_map byte_text bytes) × AreBytes bytes

-- a word is the text of a value
abbrev pub SpellsValue : List ℕ → List ℕ → Type 0
SpellsValue word value = (word ≡ value_text value) × AreBytes value

-- such a line has this path, this place and this value
abbrev pub IsSpelledWrite : List ℕ → List ℕ → List ℕ → List ℕ → Type 0
IsSpelledWrite line path from value = (last : List ℕ) × IsWrite line path from last × SpellsValue last value

-- so many bytes of a text are read, and the rest is to come
abbrev pub IsReadTo : List ℕ → List ℕ → List ℕ → Type 0
IsReadTo text value rest = text ≡ flat_map byte_text value ++ rest

-- so many bytes of a text spell these
abbrev pub IsReadUpTo : List ℕ → ℕ → List ℕ → Type 0
IsReadUpTo text at value = take at text ≡ flat_map byte_text value
