-- A list of sectors that are put one after another.
use Rattle.std.specs.Prelude.{◌≡◌, ◌⊎◌, ◌↔◌, ◌≤◌, ℕ, ◌+◌, Bool, not, IsTrue, List}
use Rattle.std.specs.List.{count_by}
use Rattle.sector_disk.specs.Space.{Space, AgreesOutside}

-- how many of these sectors weren't put since the last commit
abbrev pub unput : (ℕ → Bool) → List ℕ → ℕ
unput put sectors = count_by (λ s. not (put s)) sectors

-- these sectors were put, and no other
pub record PutsThese (these : ℕ → Type 0) (old new : Space) : Type 0 where
  pub content : AgreesOutside these old.content new.content
  pub durable : new.durable ≡ old.durable
  pub spilled : (s : ℕ) → new.spilled s ↔ old.spilled s
  pub live : (s : ℕ) → new.live s ↔ (old.live s ⊎ these s)
  pub closed : (s : ℕ) → new.closed s ↔ old.closed s

-- these sectors count as put, which took room for no more than so many
pub record TakesRoomOf (these : ℕ → Type 0) (most : ℕ) (old new : Space) : Type 0 where
  pub put : (s : ℕ) → IsTrue (new.put s) ↔ (IsTrue (old.put s) ⊎ these s)
  pub spare : old.spare ≤ new.spare + most
  pub no_more : new.spare ≤ old.spare
