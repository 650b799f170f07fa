-- Blocks written home: what a crash leaves on the way, and what stands at the end.
use Rattle.std.specs.Prelude.{◌≡◌, ◌⊎◌, ◌<◌, ◌≤◌, ◌+◌, ◌/◌, ℕ, List, [], ◌∷◌, ◌++◌, length, drop, bit_and, if◌then◌else◌, None, true, Ok}
use Rattle.sector_disk.specs.Lists.{Content, sector, put_sectors}
use Rattle.sector_disk.specs.Disk.{Candidates, GrowsBy, MixesBy, content}
use Rattle.jnl_format.specs.Info.{with_info}
use Rattle.jnl_format.specs.Header.{header_bytes}
use Rattle.jnl_format.specs.Text.{bad_list_as, text_homes}
use Rattle.jnl_format.specs.Recovery.{Journal, journal_as, recovery_as, replayed}
use Rattle.jnl_format.specs.declared.blocks.Home.{Home}
use Rattle.jnl_format.specs.declared.blocks.Volume.{Volume}
use Rattle.jnl_format.specs.declared.dialect.Dialect.{Dialect}
use Rattle.jnl_format.specs.declared.dialect.Dialect.TheVariants.{Plain, Wide}
use Rattle.jnl_format.specs.declared.structures.Info.{Info}
use Rattle.jnl_format.specs.declared.structures.Header.{Header}
use Rattle.jnl_format.specs.Keeping.{KeepsHeader}
use Rattle.jnl_format.specs.Named.{IsHomeOf}
use Rattle.jnl_replay.specs.Plan.{journal_of}
use Rattle.jnl_replay.specs.declared.plan.Plan.{Plan}
use Rattle.jnl_replay.specs.declared.text.Text.{Text}

-- each candidate is an old one, or has the bytes of one of these homes
abbrev pub GrowsHomes : List ℕ → List Home → Candidates → Candidates → Type 0
GrowsHomes bytes homes = GrowsBy (IsHomeOf bytes homes)

-- each sector of the image is an old candidate, or has the bytes of one of these homes
abbrev pub IsHomeMix : List ℕ → List Home → Candidates → Content → Type 0
IsHomeMix bytes homes = MixesBy (IsHomeOf bytes homes)

-- These are the homes of a text on a disk of so many sectors, each of whose lists is as it must be: as the wide dialect
-- has it, which takes what the plain one takes.
pub record AreHomesOf (total : ℕ) (text : Text) (bytes : List ℕ) (volume : Volume) (homes : List Home) : Type 0 where
  pub sectors : volume.sectors ≡ total
  pub first : volume.first ≡ text.span.base
  pub count : volume.count ≡ text.span.size / 512
  pub good : bad_list_as Wide volume text.order text.blhdr bytes (length bytes) 0 ≡ None
  pub homes_are : homes ≡ text_homes text.order text.blhdr bytes (length bytes) 0

-- a header that says of its journal that it is empty
abbrev pub emptied : Header → Header
emptied head = record head { start = head.end }

-- the flags without the one for a journal that still has to be initialised
abbrev pub initialised : Info → Info
initialised info = record info { flags = bit_and info.flags 4294967291 }

-- the sector of the journal header, emptied
abbrev pub empty_header : Plan → Content → List ℕ
empty_header plan content = header_bytes (emptied plan.header) ++ drop 44 (sector content (plan.info.offset / 512))

-- a content with the journal header emptied
abbrev pub with_empty_header : Plan → Content → Content
with_empty_header plan content = put_sectors content (plan.info.offset / 512) (empty_header plan content ∷ [])

-- a content whose info block says that the journal is initialised
abbrev pub with_info_done : Plan → Content → Content
with_info_done plan content = put_sectors content plan.place.info_sector (with_info (initialised plan.info) (sector content plan.place.info_sector) ∷ [])

-- the content after a replay: what it stood for, with the journal empty and initialised
abbrev pub after_replay : Plan → Content → Content
after_replay plan content =
    if plan.fresh then with_info_done plan (with_empty_header plan content) else with_empty_header plan (replayed (journal_of plan) content)

-- the same but in the journal header and the info block
pub record AgreesOutsideJournal (plan : Plan) (old new : Content) : Type 0 where
  pub size : length new ≡ length old
  pub each : (at : ℕ) → (sector new at ≡ sector old at) ⊎ (at ≡ plan.info.offset / 512) ⊎ (at ≡ plan.place.info_sector)

-- a sector of the journal, or the info block
abbrev pub IsJournalSector : Plan → ℕ → Type 0
IsJournalSector plan at = ((plan.info.offset / 512 ≤ at) × (at < plan.info.offset / 512 + plan.info.size / 512)) ⊎ (at ≡ plan.place.info_sector)

-- A content that stands in a dialect for what this one does, but in the journal header and the info block. It can be mounted: its
-- volume header is accepted and of the same volume, and its journal has the same place, order and sizes. Its journal
-- header and its info block are those of before, or those that a replay writes. The journal's own sectors of what it
-- stands for are its own.
pub record StandsForSameAs (dialect : Dialect) (plan : Plan) (old image : Content) : Type 0 where
  pub recovered : Content
  pub stands : recovery_as dialect image ≡ Ok recovered
  pub agrees : AgreesOutsideJournal plan (replayed (journal_of plan) old) recovered
  pub volume : KeepsHeader old image
  pub journal : Journal
  pub found : journal_as dialect plan.place.info_sector image ≡ Ok journal
  pub offset : journal.info.offset ≡ plan.info.offset
  pub size : journal.info.size ≡ plan.info.size
  pub order : journal.header.order ≡ plan.header.order
  pub blhdr : journal.header.blhdr ≡ plan.header.blhdr
  pub header : (sector image (plan.info.offset / 512) ≡ sector old (plan.info.offset / 512)) ⊎ (sector image (plan.info.offset / 512) ≡ empty_header plan old)
  pub info : (sector image plan.place.info_sector ≡ sector old plan.place.info_sector) ⊎ ((plan.fresh ≡ true) × (sector image plan.place.info_sector ≡ with_info (initialised plan.info) (sector old plan.place.info_sector)))
  pub own : (s : ℕ) → IsJournalSector plan s → sector recovered s ≡ sector image s

-- the same in the plain dialect
abbrev pub StandsForSame : Plan → Content → Content → Type 0
StandsForSame = StandsForSameAs Plain
