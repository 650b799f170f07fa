-- A store with its disk, in service: what a commit rests on, and what stays of it over the calls of a space.
use Rattle.std.specs.Prelude.{◌≡◌, ◌<◌, ◌≤◌, ℕ, Bool, List, length, IsTrue}
use Rattle.sector_disk.specs.Disk.{State}
use Rattle.sector_disk.specs.Lists.{sector}
use Rattle.sector_disk.specs.Space.{Space}
use Rattle.jnl_format.specs.Keeping.{KeepsHeader}
use Rattle.hfs_volume.specs.Content.{journal_place}
use Rattle.jnl_format.specs.Recovery.{header_of_volume, info_sector_of, journaling_version}
use Rattle.jnl_format.specs.declared.structures.Info.{Info}
use Rattle.jnl_replay.specs.Plan.{FitsPlan}
use Rattle.jnl_replay.specs.declared.plan.Place.{Place}
use Rattle.jnl_replay.specs.declared.plan.Plan.{Plan}
use Rattle.jnl_store.specs.Plan.{IsCapacityOf}
use Rattle.jnl_store.specs.Store.{KeepsOn, plan_of, room_of}
use Rattle.jnl_store.specs.declared.store.Store.{Store}

-- The store's journal lies on the disk, one of its transactions holds at most so many sectors, there is room for no more between two commits,
-- and it keeps what it has to keep.
pub record IsInService (store : Store) (disk : State) (capacity : ℕ) : Type 0 where
  pub fits : FitsPlan disk.sectors (plan_of store)
  pub holds : IsCapacityOf (plan_of store) capacity
  pub room : room_of store ≤ capacity
  pub keeps : IsTrue disk.tells → KeepsOn store disk

-- What was put into the volume header's sector, if anything, is an accepted header of the same volume, which says that a system mounts it that
-- keeps the journal. The sector isn't one of the journal's.
pub record KeepsHeading (space : Space) : Type 0 where
  pub header : KeepsHeader space.durable space.content
  pub version : (header_of_volume space.durable).last_mounted_version ≡ journaling_version
  pub apart : space.closed 2 → ⊥

-- what a mount looks at of a journal's plan: where it lies, and the bytes of a list's header
pub record JournalAnchor : Type 0 where
  pub place : Place
  pub info : Info
  pub blhdr : ℕ

-- of a plan these are it
abbrev pub anchor_of : Plan → JournalAnchor
anchor_of plan = record { place = plan.place; info = plan.info; blhdr = plan.header.blhdr }

-- What a space shows of its journal's own sectors: each has its bytes, and the info block names the journal that lies there.
pub record ShowsJournal (journal : JournalAnchor) (space : Space) : Type 0 where
  pub whole : (at : ℕ) → space.closed at → at < length space.content → length (sector space.content at) ≡ 512
  pub names : journal_place (sector space.content (info_sector_of (header_of_volume space.content))) ≡ record { offset = journal.info.offset; size = journal.info.size }

-- what no call changes of a rig
pub record RigAnchor : Type 0 where
  pub tells : Bool
  pub tells_left : Bool
  pub names : List ℕ
  pub sectors : ℕ

-- of a rig these are it
abbrev pub rig_of : State → RigAnchor
rig_of rig = record { tells = rig.tells; tells_left = rig.tells_left; names = rig.names; sectors = rig.sectors }

-- The same of a ground's journal and of its rig, and the references that the ground holds, by their ghost names.
pub record Anchor : Type 0 where
  pub journal : JournalAnchor
  pub rig : RigAnchor
  pub names : List ℕ
