-- The next line of a source.
use Rattle.std.specs.Prelude.{◌≡◌, ◌≤◌, ◌<◌, ◌++◌, ◌∷◌, [], ℕ, List, Option, Result, IsErrOf, IsTrue, IfOk, IfSome, IfNone, OnSome, OnOk}
use Rattle.sector_disk.specs.Source.{Stream}
use Rattle.hfs_language.specs.Lines.{HasNoNewline}
use Rattle.line_source.specs.Cause.{IsCause}
use Rattle.line_source.specs.Input.{ahead, weight, IsLine, SameSource, TakesLines, TakesNoMore}
use Rattle.line_source.specs.declared.input.InputFault.{InputFault}
use Rattle.line_source.specs.declared.input.InputFault.TheVariants.{Source}

-- The next line was taken out of the bytes ahead, or none was left, or a fault left what was taken.
pub record GivesNext (limit : ℕ) (taken : List ℕ) (source : Stream) (result : Result (Option (List ℕ)) InputFault) (taken_new : List ℕ) (source_new : Stream) : Type 0 where
  pub line : IfOk result (λ next. IfSome next (λ line. (text : List ℕ) × IsLine limit text line × (IsTrue source.tells → TakesLines taken source (text ∷ []) taken_new source_new)))
  pub end : IsTrue source.tells → IfOk result (λ next. IfNone next ((ahead taken source ≡ []) × (ahead taken_new source_new ≡ [])))
  pub gone : IsTrue source.tells → (gone : List ℕ) × (ahead taken source ≡ gone ++ source_new.left)
  pub no_more : IsTrue source.tells → TakesNoMore taken source source_new
  pub begun : IsTrue source.tells → IsErrOf result Source → (begun : List ℕ) × HasNoNewline begun × (ahead taken source ≡ begun ++ source_new.left)
  pub had_none : IsTrue source.tells → IsErrOf result Source → HasNoNewline taken
  pub nearer : IfOk result (λ next. OnSome next (weight taken_new source_new < weight taken source))
  pub no_heavier : OnOk result (weight taken_new source_new ≤ weight taken source)
  pub same : SameSource source source_new
  pub cause : IsCause Source source.faults source_new.faults result
