-- What spills into some sectors leave of a space.
use Rattle.std.specs.Prelude.{◌≡◌, ◌≢◌, ◌⊎◌, ◌↔◌, ◌<◌, ◌≤◌, ℕ, IsTrue}
use Rattle.std.specs.Prelude.{List, Some, slice_get}
use Rattle.sector_disk.specs.Clock.{TimePasses}
use Rattle.sector_disk.specs.Space.{Space, AgreesOutside, SameSpace, SameRoom, SameSectors, LeavesDurable}

-- a sector is one of these
abbrev pub IsOneOf : List ℕ → ℕ → Type 0
IsOneOf sectors at = (place : ℕ) × (slice_get sectors place ≡ Some at)

-- the space was read, and nothing else was done to it
pub record IsOnlyRead (old new : Space) : Type 0 where
  pub sectors : IsTrue old.tells → SameSectors old new
  pub time : IsTrue old.tells → TimePasses old.clock new.clock (LeavesDurable new)
  pub room : SameRoom old new
  pub same : SameSpace old new
  pub later : old.faults ≤ new.faults

-- Sectors of these were spilled, or may have been: all others are as they were, and nothing else is.
pub record SpillsIn (these : ℕ → Type 0) (old new : Space) : Type 0 where
  pub content : AgreesOutside these old.content new.content
  pub durable : AgreesOutside (λ s. these s × new.spilled s) old.durable new.durable
  pub spilled : (s : ℕ) → new.spilled s → old.spilled s ⊎ these s
  pub still : (s : ℕ) → old.spilled s → new.spilled s
  pub live : (s : ℕ) → new.live s ↔ old.live s
  pub closed : (s : ℕ) → new.closed s ↔ old.closed s

-- a sector may be spilled: it lies in the space and outside the journal, it isn't the volume header's, and no put and no live list names it
pub record MaySpill (space : Space) (sector : ℕ) : Type 0 where
  pub inside : sector < space.sectors
  pub no_header : sector ≢ 2
  pub outside : IsTrue space.tells → space.closed sector → ⊥
  pub idle : IsTrue space.tells → space.live sector → ⊥
