-- An image made ready for a store: its journal is replayed and empty, and its header has the version of systems that keep the journal.
use Rattle.std.specs.Prelude.{◌≡◌, ◌⊎◌, ◌==◌, ℕ, List, ◌∷◌, [], if◌then◌else◌}
use Rattle.sector_disk.specs.Disk.{HasNothingPending, State, content}
use Rattle.sector_disk.specs.Lists.{put_sectors, sector}
use Rattle.sector_disk.specs.Space.{AgreesOutside}
use Rattle.volume_header.specs.Header.{header_bytes, header_of}
use Rattle.jnl_format.specs.Recovery.{Content, header_of_volume, journaling_version}
use Rattle.jnl_replay.specs.Homing.{after_replay}
use Rattle.jnl_replay.specs.Plan.{IsPlan}
use Rattle.jnl_replay.specs.declared.plan.Plan.{Plan}
use Rattle.jnl_store.specs.Journal.{IsClosed}
use Rattle.jnl_store.specs.Plan.{rested}
use Rattle.hfs_volume.specs.Aside.{IsJournalSector}
use Rattle.hfs_volume.specs.Content.{volume_of}
use Rattle.hfs_serving.specs.Outside.{outside_of}
use Rattle.hfs_serving.specs.Runs.{KeepsPlace, SetsVersion, version_header}
use Rattle.hfs_serving.specs.Stages.{MayTurn, Turns}

-- a plan with the version of systems that keep the journal
abbrev pub with_version : Plan → Plan
with_version plan = record plan { place = record plan.place { last_mounted = journaling_version } }

-- the plan that a mount leaves
abbrev pub mounted_plan : Plan → Plan
mounted_plan plan = with_version (rested plan)

-- the sector of a volume header, with that version
abbrev pub version_sector : List ℕ → List ℕ
version_sector bytes = header_bytes (version_header (header_of bytes))

-- a content with that version in its header
abbrev pub with_version_set : Content → Content
with_version_set content = put_sectors content 2 (version_sector (sector content 2) ∷ [])

-- a content whose header has this version, with that one in its place
abbrev pub versioned : ℕ → Content → Content
versioned version content = if version == journaling_version then content else with_version_set content

-- as it was, or with the version
abbrev pub IsVersioned : Content → Content → Type 0
IsVersioned start now = (now ≡ start) ⊎ SetsVersion start now

-- The disk is ready for a store: nothing is pending, and its content has the plan's journal, which a replay leaves as it is. It is this
-- content, but in the journal's own sectors, of which the header's isn't one.
pub record IsReady (plan : Plan) (now : Content) (disk : State) : Type 0 where
  pub settled : HasNothingPending disk
  pub plan_is : IsPlan (content disk) plan
  pub empty : after_replay plan (content disk) ≡ content disk
  pub agrees : AgreesOutside (IsClosed plan) now (content disk)
  pub journal : (s : ℕ) → IsClosed plan s → IsJournalSector now s
  pub lies : (volume_of now).journal ≡ record { offset = plan.info.offset; size = plan.info.size }
  pub version : (header_of_volume (content disk)).last_mounted_version ≡ journaling_version
  pub apart : IsClosed plan 2 → ⊥

-- ---- of any content, sound or not

-- What was found is this content, or it with the version in its header, but in the journal and in its info block.
abbrev pub StandsMounted : Content → Content → Type 0
StandsMounted start recovered = AgreesOutside (IsJournalSector start) start recovered ⊎ AgreesOutside (IsJournalSector start) (with_version_set start) recovered

-- The disk is ready for a store, and has this content, whose header had this version, with that of systems that keep the journal, but in the journal and in
-- its info block. The journal lies where it lay.
pub record IsMountedFrom (version : ℕ) (start : Content) (ready : Plan) (disk : State) : Type 0 where
  pub is_ready : IsReady ready (content disk) disk
  pub agrees : AgreesOutside (IsJournalSector start) (versioned version start) (content disk)
  pub header : header_of_volume (content disk) ≡ version_header (header_of_volume start)
  pub journal : (volume_of (content disk)).journal ≡ (volume_of start).journal

-- ---- of a sound content

-- An image was made ready, from the content that it stood for to one that has the version.
pub record IsMadeReady (start : Content) (ready : Plan) (disk : State) : Type 0 where
  pub now : Content
  pub versioned : IsVersioned start now
  pub place : KeepsPlace start now
  pub is_ready : IsReady ready now disk

-- The same, and a crash on the way leaves one of the two.
pub record Readies (plan : Plan) (start : Content) (ready : Plan) (before after : State) : Type 0 where
  pub made : IsMadeReady start ready after
  pub turns : Turns start made.now (outside_of plan before) (outside_of plan after)

-- The same, whatever ended it.
pub record MayReady (plan : Plan) (start : Content) (before after : State) : Type 0 where
  pub now : Content
  pub versioned : IsVersioned start now
  pub place : KeepsPlace start now
  pub may : MayTurn start now (outside_of plan before) (outside_of plan after)
