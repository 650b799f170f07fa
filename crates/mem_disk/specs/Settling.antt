-- Which sectors a barrier has to settle.
use Rattle.std.specs.Prelude.{◌≡◌, ◌<◌, ◌≤◌, ℕ, List, [], ◌∷◌, length, drop, slice_index_or, slice_set}
use Rattle.sector_disk.specs.Lists.{last}
use Rattle.sector_disk.specs.Disk.{Candidates, candidates_of}
use Rattle.mem_disk.specs.declared.event.Event.{Event}
use Rattle.mem_disk.specs.declared.event.Event.TheVariants.{Write, Barrier, Told}

-- the event is a write of this sector
abbrev pub IsWriteOf : ℕ → Event → Type 0
IsWriteOf at (Write written) = written.value.at ≡ at
IsWriteOf at Barrier = ⊥
IsWriteOf at (Told byte) = ⊥

-- none of the events is a write of this sector
abbrev pub IsUnwritten : ℕ → List Event → Type 0
IsUnwritten at events = (k : ℕ) (d : Event) → k < length events → ¬ IsWriteOf at (slice_index_or events k d)

-- a sector that wasn't written after the first `settled` events has one candidate
pub record ArePending (settled : ℕ) (events : List Event) (table : Candidates) : Type 0 where
  pub some : settled ≤ length events
  pub one : (at : ℕ) → at < length table → IsUnwritten at (drop settled events) → length (candidates_of table at) ≡ 1

-- the candidates where the sector that was written, if one was, keeps its last alone
abbrev pub settled_by : Candidates → Event → Candidates
settled_by table (Write written) = slice_set table written.value.at (last (candidates_of table written.value.at) ∷ [])
settled_by table Barrier = table
settled_by table (Told byte) = table
