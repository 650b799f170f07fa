-- Bytes that were taken, cut at a newline.
use Rattle.std.specs.Prelude.{◌≡◌, ◌++◌, ◌∷◌, [], ℕ, Bool, List, IsTrue, false}
use Rattle.hfs_language.specs.Lines.{HasNoNewline}
use Rattle.line_source.specs.Input.{IsLine}

-- The bytes up to a newline, or all where there is none, were taken away and joined a line, of which no more is held than one byte beyond the limit.
pub record Cuts (limit : ℕ) (taken line : List ℕ) (ended : Bool) (taken_new line_new : List ℕ) : Type 0 where
  pub piece : List ℕ
  pub no_newline : HasNoNewline piece
  pub joins : (text : List ℕ) → IsLine limit text line → IsLine limit (text ++ piece) line_new
  pub at_newline : IsTrue ended → taken ≡ piece ++ 10 ∷ taken_new
  pub at_end : ended ≡ false → (taken ≡ piece) × (taken_new ≡ [])
