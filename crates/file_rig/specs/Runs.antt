-- Runs of neighbouring sectors that are kept in memory.
use Rattle.std.specs.Prelude.{◌≡◌, ◌⊎◌, ◌<◌, ◌≤◌, ◌+◌, ◌-◌, ℕ, List, [], ◌∷◌, ◌++◌, length, slice_set}
use Rattle.sector_disk.specs.Lists.{Content, sector}

-- a run of neighbouring sectors: the number of the first, and the value of each
pub record Run : Type 0 where
  pub first : ℕ
  pub values : Content

-- the run has this sector
pub record IsIn (run : Run) (at : ℕ) : Type 0 where
  pub from : run.first ≤ at
  pub to : at < run.first + length run.values

-- a sector's value in the run
abbrev pub value_in : Run → ℕ → List ℕ
value_in run at = sector run.values (at - run.first)

-- none of so many sectors from here on is in the run
abbrev pub IsApart : Run → ℕ → ℕ → Type 0
IsApart run first count = (first + count ≤ run.first) ⊎ (run.first + length run.values ≤ first)

-- the run with another value for a sector that it has
pub record Changes (old : Run) (at : ℕ) (value : List ℕ) (new : Run) : Type 0 where
  pub inside : IsIn old at
  pub first : new.first ≡ old.first
  pub values : new.values ≡ slice_set old.values (at - old.first) value

-- the run with its next neighbour behind it
pub record Extends (old : Run) (at : ℕ) (value : List ℕ) (new : Run) : Type 0 where
  pub next : at ≡ old.first + length old.values
  pub first : new.first ≡ old.first
  pub values : new.values ≡ old.values ++ value ∷ []

-- a run of this sector alone, in place of an empty one
pub record Begins (old : Run) (at : ℕ) (value : List ℕ) (new : Run) : Type 0 where
  pub empty : old.values ≡ []
  pub first : new.first ≡ at
  pub values : new.values ≡ value ∷ []

-- the run took this value for this sector
abbrev pub Takes : Run → ℕ → List ℕ → Run → Type 0
Takes old at value new = Changes old at value new ⊎ (Extends old at value new ⊎ Begins old at value new)
