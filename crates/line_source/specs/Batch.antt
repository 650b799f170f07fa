-- Lines in memory, and those that are there without waiting.
use Rattle.std.specs.Prelude.{◌≡◌, ◌≤◌, ◌==◌, ◌+◌, ◌++◌, ℕ, Bool, List, IsTrue, length, map, take}
use Rattle.std.specs.List.{list_any}
use Rattle.sector_disk.specs.Source.{Stream}
use Rattle.line_source.specs.Input.{weight, SameSource, TakesLines}

-- a newline stands among the bytes
abbrev pub has_newline : List ℕ → Bool
has_newline bytes = list_any (λ byte. byte == 10) bytes

-- what is held of lines with these texts: of each the bytes up to the first that is too many
abbrev pub held : ℕ → List (List ℕ) → List (List ℕ)
held limit texts = map (take (limit + 1)) texts

-- Lines were taken out of the bytes ahead and stand behind those that were in memory, held up to a limit.
pub record AddsLines (limit : ℕ) (lines : List (List ℕ)) (taken : List ℕ) (source : Stream) (lines_new : List (List ℕ)) (taken_new : List ℕ) (source_new : Stream) : Type 0 where
  pub texts : List (List ℕ)
  pub held_are : lines_new ≡ lines ++ held limit texts
  pub takes : IsTrue source.tells → TakesLines taken source texts taken_new source_new
  pub nearer : weight taken_new source_new + length texts ≤ weight taken source
  pub same : SameSource source source_new
  pub later : source.faults ≤ source_new.faults
