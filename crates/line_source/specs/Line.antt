-- The text of a line that may end in a value.
use Rattle.std.specs.Prelude.{◌++◌, ℕ, List, Option, None, Some}
use Rattle.hfs_language.specs.Text.{value_text}

-- a line is its text, or the text in front of a value and then that of the value
abbrev pub line_text : List ℕ → Option (List ℕ) → List ℕ
line_text head None = head
line_text head (Some value) = head ++ value_text value
