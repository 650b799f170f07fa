-- Lines that are taken of a source and served.
use Rattle.std.specs.Prelude.{◌≡◌, ◌++◌, ℕ, List}
use Rattle.sector_disk.specs.Source.{Stream}
use Rattle.line_source.specs.Input.{ahead, SplitsIntoLines}

-- Bytes were taken that stood first, and these lines are the first that they are cut into: each ends with a newline, but for a last piece at the end
-- of all bytes.
pub record HasTaken (taken : List ℕ) (source : Stream) (some : List (List ℕ)) (source_new : Stream) : Type 0 where
  pub used : List ℕ
  pub rest : List ℕ
  pub bytes : ahead taken source ≡ used ++ (rest ++ source_new.left)
  pub cut : SplitsIntoLines used some (rest ++ source_new.left)
