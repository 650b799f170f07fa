-- Lines that a source hands over as lines.
use Rattle.std.specs.Prelude.{◌≡◌, ◌≤◌, ◌<◌, ◌++◌, ◌∷◌, ℕ, List, [], IsTrue, length}
use Rattle.std.specs.List.{AllByRecursion, flat_map}
use Rattle.sector_disk.specs.Source.{Stream}
use Rattle.hfs_language.specs.Lines.{HasNoNewline}
use Rattle.line_source.specs.Input.{ahead, most_taken, weight}

-- the bytes of lines with these texts, each with a newline behind it
abbrev pub bytes_of : List (List ℕ) → List ℕ
bytes_of texts = flat_map (λ text. text ++ 10 ∷ []) texts

-- none of these texts has a newline
abbrev pub AreLines : List (List ℕ) → Type 0
AreLines texts = AllByRecursion HasNoNewline texts

-- Lines with these texts were handed over: their bytes stood first among those that were left.
pub record HandsOver (source : Stream) (texts : List (List ℕ)) (source_new : Stream) : Type 0 where
  pub whole : AreLines texts
  pub few : length (bytes_of texts) ≤ most_taken
  pub bytes : IsTrue source.tells → source.left ≡ bytes_of texts ++ source_new.left
  pub falls : (texts ≡ [] → ⊥) → source_new.takes < source.takes

-- Lines were handed over where no byte was left of those taken before, and nothing was done where one was.
pub record Refills (taken : List ℕ) (source : Stream) (taken_new : List ℕ) (source_new : Stream) : Type 0 where
  pub bytes : IsTrue source.tells → ahead taken_new source_new ≡ ahead taken source
  pub still : (taken ≡ [] → ⊥) → (source_new ≡ source) × (taken_new ≡ taken)
  pub few : taken ≡ [] → length taken_new ≤ most_taken
  pub no_more : weight taken_new source_new ≤ weight taken source
