-- Bytes of a source on their way into lines.
use Rattle.std.specs.Prelude.{◌≡◌, ◌⊎◌, ◌≤◌, ◌+◌, ◌*◌, ◌++◌, ◌∷◌, ℕ, List, [], length, take}
use Rattle.sector_disk.specs.Source.{Stream}
use Rattle.hfs_language.specs.Lines.{lines, HasNoNewline}

-- the bytes that are still to be read: those taken before, and then those left
abbrev pub ahead : List ℕ → Stream → List ℕ
ahead taken source = taken ++ source.left

-- how many bytes are taken of a source at once, at most: four mebibytes
abbrev pub most_taken : ℕ
most_taken = 4194304

-- how many bytes may still come, at most
abbrev pub weight : List ℕ → Stream → ℕ
weight taken source = source.takes * most_taken + length taken

-- what is held of a line: all of it, but of one that is longer than the limit the bytes up to the first that is too many
abbrev pub IsLine : ℕ → List ℕ → List ℕ → Type 0
IsLine limit text line = line ≡ take (limit + 1) text

-- what no take changes
pub record SameSource (old new : Stream) : Type 0 where
  pub tells : new.tells ≡ old.tells
  pub names : new.names ≡ old.names

-- these bytes are cut into these lines, whatever comes behind them, or at the end of all bytes
abbrev pub SplitsIntoLines : List ℕ → List (List ℕ) → List ℕ → Type 0
SplitsIntoLines used some rest = ((more : List ℕ) → lines (used ++ more) ≡ some ++ lines more) ⊎ ((rest ≡ []) × (lines used ≡ some))

-- These lines were taken out of the bytes ahead.
pub record TakesLines (taken : List ℕ) (source : Stream) (some : List (List ℕ)) (taken_new : List ℕ) (source_new : Stream) : Type 0 where
  pub used : List ℕ
  pub bytes : ahead taken source ≡ used ++ ahead taken_new source_new
  pub cut : SplitsIntoLines used some (ahead taken_new source_new)

-- Where a whole line was there of the bytes taken before, the source wasn't asked. Of the bytes that were taken now, no
-- more than 4,194,304 stand behind a newline.
pub record TakesNoMore (taken : List ℕ) (source source_new : Stream) : Type 0 where
  pub needed : (source_new ≡ source) ⊎ HasNoNewline taken
  pub came : List ℕ
  pub bytes : source.left ≡ came ++ source_new.left
  pub few : (before behind : List ℕ) → came ≡ before ++ 10 ∷ behind → length behind ≤ most_taken
