-- Numbers of the names in the private folder.
use Rattle.std.specs.Prelude.{◌≡◌, ◌⊎◌, ◌<◌, ◌≤◌, ℕ, ◌^◌, Bool, true, false, List, Option, None, Some}
use Rattle.btree_node.specs.Levels.{Pair}
use Rattle.btree_node.specs.Store.{Store}
use Rattle.btree_edit.specs.Reading.{ReadsNodes}
use Rattle.hfs_volume.specs.Records.{placed_in, record_at, numbered}

-- the private folder has no name of this word with this number
abbrev pub IsFree : List Pair → ℕ → List ℕ → ℕ → Type 0
IsFree pairs private word number = record_at (placed_in pairs) private (numbered word number) ≡ None

-- whether it has none
abbrev pub TellsFree : List Pair → ℕ → List ℕ → ℕ → Bool → Type 0
TellsFree pairs private word number true = IsFree pairs private word number
TellsFree pairs private word number false = IsFree pairs private word number → ⊥

-- it has the names of all numbers from one on and below another
abbrev pub AreTaken : List Pair → ℕ → List ℕ → (low high : ℕ) → Type 0
AreTaken pairs private word low high = (number : ℕ) → low ≤ number → number < high → IsFree pairs private word number → ⊥

-- a number is the first one from another on whose name isn't there
pub record IsFreeFrom (pairs : List Pair) (private : ℕ) (word : List ℕ) (low number : ℕ) : Type 0 where
  pub free : IsFree pairs private word number
  pub within : low ≤ number
  pub fits : number < 2 ^ 32
  pub taken : AreTaken pairs private word low number

-- the first such number; none where all have their names there
abbrev pub FindsFree : List Pair → ℕ → List ℕ → ℕ → Option ℕ → Type 0
FindsFree pairs private word low None = AreTaken pairs private word low (2 ^ 32)
FindsFree pairs private word low (Some number) = IsFreeFrom pairs private word low number

-- The number that a file gets: the first from its own on whose name isn't there; behind the greatest comes 1.
abbrev pub IsFirstFree : List Pair → ℕ → List ℕ → ℕ → ℕ → Type 0
IsFirstFree pairs private word own number =
    IsFreeFrom pairs private word own number ⊎ (AreTaken pairs private word own (2 ^ 32) × IsFreeFrom pairs private word 1 number)

-- Nodes were loaded, and nothing else has changed.
pub record OnlyReads (old new : Store) : Type 0 where
  pub most : ℕ
  pub reads : ReadsNodes most old new
  pub later : old.faults ≤ new.faults
