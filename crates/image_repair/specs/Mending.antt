-- An image repaired: what a crash on the way leaves, and what stands at the end.
use Rattle.std.specs.Prelude.{◌≡◌, ◌⊎◌, ◌≤◌, ℕ, length}
use Rattle.sector_disk.specs.Disk.{HasNothingPending, State, content}
use Rattle.sector_disk.specs.Space.{AgreesOutside, Space}
use Rattle.jnl_format.specs.Recovery.{Content, Journal, header_of_volume, journaling_version, sector}
use Rattle.hfs_volume.specs.Aside.{IsJournalSector}
use Rattle.hfs_volume.specs.Content.{volume_of}
use Rattle.hfs_volume.specs.Findings.{HasBytes}
use Rattle.hfs_volume.specs.Mount.{HasJournal}
use Rattle.hfs_volume.specs.Sound.{IsSound}
use Rattle.volume_repair.specs.Differing.{differing}
use Rattle.volume_repair.specs.Remount.{IsRemounted, IsSameButCounts}
use Rattle.volume_repair.specs.Repair.{IsRepair}
use Rattle.hfs_serving.specs.Grounds.{KeepsHeading}
use Rattle.hfs_serving.specs.Opening.{Opens}
use Rattle.hfs_serving.specs.Outside.{Outside}
use Rattle.hfs_serving.specs.Readying.{StandsMounted}
use Rattle.hfs_serving.specs.Serving.{IsAsDurable}

-- ---- what may be repaired

-- The content has a sound repair, which differs in so many sectors at most.
pub record IsRepairable (sectors : ℕ) (start : Content) : Type 0 where
  pub mended : Content
  pub repair : IsRepair start mended
  pub sound : IsSound mended
  pub fits : differing start mended ≤ sectors

-- a content of bytes, whose header's sector has 512
pub record IsOfBytes (content : Content) : Type 0 where
  pub bytes : HasBytes content
  pub header : length (sector content 2) ≡ 512

-- ---- what stands

-- What was found is the repair of this content as it is mounted, which is sound, but in the journal and in its info block. Its header is the same but for
-- the counts, and the journal lies where it lay.
pub record StandsRepaired (start recovered : Content) : Type 0 where
  pub now : Content
  pub mounted : IsRemounted start now
  pub mended : Content
  pub repair : IsRepair now mended
  pub sound : IsSound mended
  pub header : IsSameButCounts (header_of_volume now) (header_of_volume mended)
  pub journal : (volume_of mended).journal ≡ (volume_of start).journal
  pub agrees : AgreesOutside (IsJournalSector start) mended recovered

-- What was found is this content as it is mounted, or its repair, but in the journal and in its info block.
abbrev pub StandsEither : Content → Content → Type 0
StandsEither start recovered = StandsMounted start recovered ⊎ StandsRepaired start recovered

-- A mount opens this image and finds the content as it is mounted, or its repair, but in the journal and in its info block.
pub record FindsEither (capacity : ℕ) (start image : Content) : Type 0 where
  pub found : Content
  pub opens : Opens image capacity found
  pub stands : StandsEither start found

-- It finds the repair, and that is sound.
pub record FindsRepair (capacity : ℕ) (start image : Content) : Type 0 where
  pub found : Content
  pub opens : Opens image capacity found
  pub stands : StandsRepaired start found
  pub sound : IsSound found

-- Nothing is pending on the disk, its journal is empty, and its header has the version of systems that keep the journal.
pub record IsBroughtHome (disk : State) : Type 0 where
  pub settled : HasNothingPending disk
  pub empty : (journal : Journal) × HasJournal (content disk) journal × (journal.header.start ≡ journal.header.end)
  pub version : (header_of_volume (content disk)).last_mounted_version ≡ journaling_version

-- so many sectors differ in the sound repair of this content
abbrev pub IsCountOf : Content → ℕ → Type 0
IsCountOf start count = (mended : Content) → IsRepair start mended → IsSound mended → count ≡ differing start mended

-- ---- on the way

-- The space shows the content as it is mounted, and all of it is durable: nothing is spilled, and a crash leaves it.
pub record ShowsMounted (start : Content) (space : Space) (outside : Outside) : Type 0 where
  pub start_bytes : IsOfBytes start
  pub read_bytes : IsOfBytes space.content
  pub mounted : IsRemounted start space.content
  pub stands : (recovered : Content) → AgreesOutside space.closed space.content recovered → StandsMounted start recovered
  pub durable : space.durable ≡ space.content
  pub closed : (s : ℕ) → space.closed s → IsJournalSector start s
  pub spilled : (s : ℕ) → space.spilled s → ⊥
  pub heads : KeepsHeading space
  pub leaves : (recovered : Content) → outside.leaves recovered → IsAsDurable space recovered
