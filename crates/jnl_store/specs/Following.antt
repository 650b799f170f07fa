-- What the calls of a space leave alone of its store and its disk.
use Rattle.std.specs.Prelude.{◌≡◌, ◌⊎◌, ◌≤◌}
use Rattle.sector_disk.specs.Cause.{Rose}
use Rattle.sector_disk.specs.Disk.{State, SameDisk, SameSink}
use Rattle.jnl_store.specs.Store.{KeepsOn, faults_of, kept_of, live_of, plan_of, room_of, slot_count}
use Rattle.jnl_store.specs.declared.store.Store.{Store}

-- Calls of a space of this store and this disk leave the journal's plan and its live lists, what was kept, the room for puts, the number of slots, what
-- was told and the count of barriers. The store keeps what it has to keep, and counts a fault only where the disk does.
pub record SpaceFollows (store : Store) (disk : State) (after : Store) (now : State) : Type 0 where
  pub plan : plan_of after ≡ plan_of store
  pub live : live_of after ≡ live_of store
  pub kept : kept_of after ≡ kept_of store
  pub room : room_of after ≡ room_of store
  pub slots : slot_count after ≡ slot_count store
  pub same : SameDisk disk now
  pub sink : SameSink disk now
  pub barriers : now.barriers ≡ disk.barriers
  pub keeps : KeepsOn store disk → KeepsOn after now
  pub later : disk.faults ≤ now.faults
  pub faults : (faults_of after ≡ faults_of store) ⊎ Rose disk.faults now.faults
