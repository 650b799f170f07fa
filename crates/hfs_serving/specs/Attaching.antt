-- A store and a volume that come into service.
use Rattle.std.specs.Prelude.{◌≡◌, ◌<◌, ◌≤◌, ℕ, [], length, IsTrue}
use Rattle.sector_disk.specs.Disk.{State, content, only}
use Rattle.sector_disk.specs.Lists.{IsSector, sector}
use Rattle.sector_disk.specs.Space.{Space}
use Rattle.jnl_format.specs.Recovery.{Content}
use Rattle.jnl_replay.specs.Homing.{after_replay}
use Rattle.jnl_replay.specs.Plan.{FitsPlan}
use Rattle.jnl_replay.specs.declared.plan.Plan.{Plan}
use Rattle.jnl_store.specs.Plan.{IsCapacityOf, rested}
use Rattle.jnl_store.specs.Store.{HasNoList, Keeps, durable_of, faults_of, plan_of, puts_of, room_of, spare_of}
use Rattle.jnl_store.specs.declared.store.Store.{Store}
use Rattle.hfs_volume.specs.Content.{volume_of}
use Rattle.hfs_volume.specs.Sound.{IsSound}
use Rattle.hfs_volume.specs.TreeOf.{tree_of}
use Rattle.hfs_serving.specs.Grounds.{KeepsHeading}
use Rattle.hfs_serving.specs.Outside.{Outside}
use Rattle.hfs_serving.specs.Readying.{IsReady}
use Rattle.hfs_serving.specs.Serving.{IsAsDurable, IsDurable, IsRead}

-- The space has the content of a sound volume, which is committed: nothing is put or spilled, and no list of the journal is live. What is read is
-- as sound, with the same lists and the same tree, and each of its sectors has its bytes.
pub record MayAttach (now : Content) (space : Space) (outside : Outside) : Type 0 where
  pub below : IsDurable now space
  pub reads : IsRead now space
  pub heads : KeepsHeading space
  pub leaves : (recovered : Content) → outside.leaves recovered → IsAsDurable space recovered
  pub sound : IsSound now
  pub sound_read : IsSound space.content
  pub lists : volume_of space.content ≡ volume_of now
  pub tree : tree_of space.content ≡ tree_of now
  pub whole : (at : ℕ) → at < length space.content → IsSector (sector space.content at)
  pub spilled : (s : ℕ) → space.spilled s → ⊥
  pub live : (s : ℕ) → space.live s → ⊥

-- for some content
abbrev pub SomeAttach : Space → Outside → Type 0
SomeAttach space outside = (now : Content) × MayAttach now space outside

-- The store was attached to a disk with this plan: its journal is the plan's, nothing is put, no list is live, and there is room for just one
-- transaction. Where the disk is ready with the plan, the store keeps on it what it has to keep.
pub record IsAttached (store : Store) (plan : Plan) (disk : State) : Type 0 where
  pub plan_is : plan_of store ≡ rested plan
  pub fits : FitsPlan disk.sectors (plan_of store)
  pub nothing : puts_of store ≡ []
  pub no_list : HasNoList store
  pub no_fault : faults_of store ≡ 0
  pub durable : durable_of store (content disk) ≡ content disk
  pub room : (capacity : ℕ) → IsCapacityOf (plan_of store) capacity → capacity ≤ spare_of store
  pub no_more : (capacity : ℕ) → IsCapacityOf (plan_of store) capacity → room_of store ≤ capacity
  pub keeps : IsTrue disk.tells → (now : Content) → IsReady plan now disk → Keeps store disk.sectors (only (after_replay plan (content disk)))
