-- Runs of sectors whose bytes stand one behind another in a journal's text.
use Rattle.std.specs.Prelude.{◌≡◌, ◌<◌, ◌≤◌, ◌+◌, ◌-◌, ◌*◌, ◌^◌, ◌&&◌, nat_le, nat_lt, ℕ, List, [], ◌∷◌, ◌++◌, length, slice_index_or, Option, None, Some, if◌then◌else◌}
use Rattle.jnl_replay.specs.declared.runs.Run.{Run}

-- the place of a sector's bytes, where it is one of a run's
abbrev pub place_in_run : Run → ℕ → Option ℕ
place_in_run run at = if nat_le run.first at && nat_lt at (run.first + run.many) then Some (run.place + (at - run.first) * 512) else None

-- the first place, or the second where there is no first
abbrev pub or_else : Option ℕ → Option ℕ → Option ℕ
or_else None other = other
or_else (Some place) other = Some place

-- the place of a sector's bytes by some runs, of which a later one stands before an earlier one
abbrev pub place_in_runs : List Run → ℕ → Option ℕ
place_in_runs [] at = None
place_in_runs (run ∷ runs) at = or_else (place_in_runs runs at) (place_in_run run at)

-- lists of runs one behind another
unfoldable pub all_runs : List (List Run) → List Run
all_runs [] = []
all_runs (runs ∷ lists) = runs ++ all_runs lists

-- A run has a sector, its end is a number of 32 bits, and that of its bytes one of 64 bits.
pub record IsRun (run : Run) : Type 0 where
  pub some : 0 < run.many
  pub sectors : run.first + run.many < 2 ^ 32
  pub bytes : run.place + run.many * 512 < 2 ^ 64

-- each of them is one
abbrev pub AreWhole : List Run → Type 0
AreWhole runs = (none : Run) (k : ℕ) → k < length runs → IsRun (slice_index_or runs k none)

-- Each of them is one, and they stand in the order of their sectors, none of which two have.
pub record AreRuns (runs : List Run) : Type 0 where
  pub whole : AreWhole runs
  pub apart : (none : Run) (i j : ℕ) → i < j → j < length runs → (slice_index_or runs i none).first + (slice_index_or runs i none).many ≤ (slice_index_or runs j none).first

-- the place by a newer list of runs, or else by an older one
abbrev pub place_in_both : List Run → List Run → ℕ → Option ℕ
place_in_both older newer at = or_else (place_in_runs newer at) (place_in_runs older at)

-- all runs before one end at a sector or before it
abbrev pub EndBy : List Run → ℕ → ℕ → Type 0
EndBy runs count at = (none : Run) (k : ℕ) → k < count → (slice_index_or runs k none).first + (slice_index_or runs k none).many ≤ at

-- A run is what two lists of them have next, from a sector on.
pub record IsNext (older newer : List Run) (at : ℕ) (run : Run) : Type 0 where
  pub is : IsRun run
  pub from : at ≤ run.first
  pub gap : (q : ℕ) → at ≤ q → q < run.first → place_in_both older newer q ≡ None
  pub here : (q : ℕ) → run.first ≤ q → q < run.first + run.many → place_in_both older newer q ≡ place_in_run run q

-- they have nothing from there on
abbrev pub HaveNone : List Run → List Run → ℕ → Type 0
HaveNone older newer at = (q : ℕ) → at ≤ q → place_in_both older newer q ≡ None
