-- How bytes are cut into lines.
use Rattle.std.specs.Prelude.{◌≢◌, ◌==◌, ℕ, List, [], ◌∷◌, All, if◌then◌else◌}

-- these lines with a byte more in front of the first, which is there from then on
abbrev pub with_front : ℕ → List (List ℕ) → List (List ℕ)
with_front byte [] = (byte ∷ []) ∷ []
with_front byte (line ∷ lines) = (byte ∷ line) ∷ lines

-- The bytes cut at each newline, without it; a last piece that isn't empty is a line too.
unfoldable pub lines : List ℕ → List (List ℕ)
lines [] = []
lines (byte ∷ bytes) = (if byte == 10 then [] ∷ lines bytes else with_front byte (lines bytes))

-- none of these bytes is a newline
abbrev pub HasNoNewline : List ℕ → Type 0
HasNoNewline bytes = All (λ byte. byte ≢ 10) bytes
