-- What the calls on a volume do to its space.
use Rattle.std.specs.Prelude.{◌≡◌, ◌⊎◌, ◌↔◌, ◌≤◌, ℕ, IsTrue}
use Rattle.sector_disk.specs.Lists.{Content}
use Rattle.sector_disk.specs.Clock.{TimePasses}
use Rattle.sector_disk.specs.Space.{Space, SameSpace, AgreesOutside, LeavesDurable}
use Rattle.hfs_volume.specs.Aside.{IsFreeSector}

-- The space was read: its content is as it was, and so is the room for puts. No sector counts as named by a put that didn't before, but these.
pub record Looks (these : ℕ → Type 0) (old new : Space) : Type 0 where
  pub same : SameSpace old new
  pub content : IsTrue old.tells → new.content ≡ old.content
  pub durable : IsTrue old.tells → new.durable ≡ old.durable
  pub spilled : IsTrue old.tells → (s : ℕ) → new.spilled s ↔ old.spilled s
  pub live : IsTrue old.tells → (s : ℕ) → new.live s → old.live s ⊎ these s
  pub still_live : IsTrue old.tells → (s : ℕ) → old.live s → new.live s
  pub closed : IsTrue old.tells → (s : ℕ) → new.closed s ↔ old.closed s
  pub still_put : (s : ℕ) → IsTrue (old.put s) → IsTrue (new.put s)
  pub spare : new.spare ≡ old.spare
  pub faults : old.faults ≤ new.faults
  pub time : IsTrue old.tells → TimePasses old.clock new.clock (LeavesDurable new)

-- What a call may do to the space since the last commit, of which this was the content, whether it ends with an answer or a fault: it puts
-- these sectors, and spills into blocks that were free at that commit.
pub record Touches (committed : Content) (these : ℕ → Type 0) (old new : Space) : Type 0 where
  pub same : SameSpace old new
  pub durable : IsTrue old.tells → AgreesOutside (λ s. IsFreeSector committed s × new.spilled s) old.durable new.durable
  pub spilled : IsTrue old.tells → (s : ℕ) → new.spilled s → old.spilled s ⊎ IsFreeSector committed s
  pub still : IsTrue old.tells → (s : ℕ) → old.spilled s → new.spilled s
  pub live : IsTrue old.tells → (s : ℕ) → new.live s → old.live s ⊎ these s
  pub closed : IsTrue old.tells → (s : ℕ) → new.closed s ↔ old.closed s
  pub still_put : (s : ℕ) → IsTrue (old.put s) → IsTrue (new.put s)
  pub spare : new.spare ≤ old.spare
  pub faults : old.faults ≤ new.faults
  pub time : IsTrue old.tells → TimePasses old.clock new.clock (LeavesDurable new)
