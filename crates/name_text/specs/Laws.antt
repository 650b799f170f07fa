-- What the language of names keeps to.
use Rattle.std.specs.Prelude.{◌≡◌, ◌↔◌, ◌<◌, ◌^◌, ℕ, List, [], ◌∷◌, Some}
use Rattle.name_text.specs.declared.piece.Piece.{Piece}
use Rattle.name_text.specs.Spelling.{IsPiece, text_of}
use Rattle.name_text.specs.Reading.{pieces}

-- each is a code unit of UTF-16
abbrev pub AreUnits : List ℕ → Type 0
AreUnits [] = Unit {0}
AreUnits (u ∷ units) = (u < 2 ^ 16) × AreUnits units

-- each escape among the pieces names a code unit
abbrev pub ArePieces : List Piece → Type 0
ArePieces [] = Unit {0}
ArePieces (piece ∷ rest) = IsPiece piece × ArePieces rest

-- a text is read to just the pieces that spell it
abbrev pub IsReadAsSpelled : List ℕ → List Piece → Type 0
IsReadAsSpelled text these = (pieces text ≡ Some these) ↔ ((text ≡ text_of these) × ArePieces these)
