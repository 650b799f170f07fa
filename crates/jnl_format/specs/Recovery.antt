-- What a volume's sectors stand for: the content after each block of its journal is written to its sectors.
use Rattle.std.specs.Prelude.{ℕ, ◌*◌, ◌/◌, Bool, true, false, not, ◌&&◌, ◌||◌, ◌==◌, if◌then◌else◌, List, [], length, fold, slice_index_or, slice_set, Option, None, Some, option_map, Result, Ok, Err}
use Rattle.hx_bytes.specs.declared.fields.Order.TheVariants.{Little}
use Rattle.volume_header.specs.Header.{header_of}
use Rattle.volume_header.specs.declared.header.VolumeHeader.{VolumeHeader}
use Rattle.jnl_format.specs.Info.{info_of, info_fault, holds, is_fresh, unless_fault}
use Rattle.jnl_format.specs.Header.{header_read_as}
use Rattle.jnl_format.specs.Ring.{ring_text, offset_after}
use Rattle.jnl_format.specs.Text.{bytes_at, bad_list_as, text_homes}
use Rattle.jnl_format.specs.declared.blocks.Home.{Home}
use Rattle.jnl_format.specs.declared.blocks.Volume.{Volume}
use Rattle.jnl_format.specs.declared.dialect.Dialect.{Dialect}
use Rattle.jnl_format.specs.declared.dialect.Dialect.TheVariants.{Plain}
use Rattle.jnl_format.specs.declared.structures.Info.{Info}
use Rattle.jnl_format.specs.declared.structures.Header.{Header}
use Rattle.jnl_format.specs.declared.structures.JnlRefusal.{JnlRefusal}
use Rattle.jnl_format.specs.declared.structures.JnlRefusal.TheVariants.{BadList, ForeignJournal}

-- a volume's sectors, each a list of 512 bytes
abbrev pub Content : Type 0
Content = List (List ℕ)

-- a sector of a content, no bytes where the content has no such sector
abbrev pub sector : Content → ℕ → List ℕ
sector content at = slice_index_or content at []

-- the volume header of a content
abbrev pub header_of_volume : Content → VolumeHeader
header_of_volume content = header_of (sector content 2)

-- the info block's sector: the first of its allocation block
abbrev pub info_sector_of : VolumeHeader → ℕ
info_sector_of head = head.journal_info_block * (head.block_size / 512)

-- A journal as its info block and header say; `fresh` says that it still has to be initialised.
pub record Journal : Type 0 where
  pub info : Info
  pub header : Header
  pub fresh : Bool

-- the header of a journal that still has to be initialised: little-endian, and empty
abbrev pub fresh_header : ℕ → Header
fresh_header size = record { order = Little; start = 512; end = 512; size = size; blhdr = 4096 }

-- goes on with what was found, unless there is a fault
abbrev pub and_then : {A B : Type 0} → Result A JnlRefusal → (A → Result B JnlRefusal) → Result B JnlRefusal
and_then (Ok a) next = next a
and_then (Err fault) next = Err fault

-- the info block that stands in these bytes of sector `at`, on a volume of so many sectors, unless it has a fault
abbrev pub info_from : ℕ → ℕ → List ℕ → Result Info JnlRefusal
info_from sectors at bytes = unless_fault (info_fault (sectors * 512) (holds (info_of bytes) 2 || holds (info_of bytes) at) (info_of bytes)) (info_of bytes)

-- the info block in a sector of a content, unless it has a fault
abbrev pub info_in : ℕ → Content → Result Info JnlRefusal
info_in at content = info_from (length content) at (sector content at)

-- the journal that an info block names, unless its header has a fault in a dialect; where it is fresh, the header isn't read
abbrev pub journal_at_as : Dialect → Content → Info → Result Journal JnlRefusal
journal_at_as dialect content info =
    if is_fresh info then Ok (record { info = info; header = fresh_header info.size; fresh = true })
    else and_then (header_read_as dialect info.size (sector content (info.offset / 512))) (λ header. Ok (record { info = info; header = header; fresh = false }))

-- the same in the plain dialect
abbrev pub journal_at : Content → Info → Result Journal JnlRefusal
journal_at = journal_at_as Plain

-- a content's journal in a dialect, whose info block stands in this sector, or the first fault of the info block and the header
unfoldable pub journal_as : Dialect → ℕ → Content → Result Journal JnlRefusal
journal_as dialect at content = and_then (info_in at content) (λ info. journal_at_as dialect content info)

-- the same in the plain dialect
abbrev pub journal_in : ℕ → Content → Result Journal JnlRefusal
journal_in = journal_as Plain

-- the text of a journal
abbrev pub text_of : Journal → Content → List ℕ
text_of journal content = ring_text content (journal.info.offset / 512) journal.info.size journal.header.start journal.header.end

-- what the journal's blocks are held against
abbrev pub volume_of : ℕ → Journal → Content → Volume
volume_of at journal content = record {
  sectors = length content;
  first = journal.info.offset / 512;
  count = journal.info.size / 512;
  info_sector = at;
  header = header_of_volume content;
}

-- the first of the journal's lists that isn't as it must be in a dialect, by its offset in the journal
abbrev pub list_fault_as : Dialect → ℕ → Journal → Content → Option JnlRefusal
list_fault_as dialect at journal content =
    let text = text_of journal content in
    option_map (λ place. BadList (offset_after journal.info.size journal.header.start place)) (bad_list_as dialect (volume_of at journal content) journal.header.order journal.header.blhdr text (length text) 0)

-- the same in the plain dialect
abbrev pub list_fault : ℕ → Journal → Content → Option JnlRefusal
list_fault = list_fault_as Plain

-- the version of systems that keep this journal: `HFSJ`
abbrev pub journaling_version : ℕ
journaling_version = 0x4846534A

-- the volume was last mounted by a system that doesn't keep the journal, and the journal isn't empty
abbrev pub foreign_fault : ℕ → Journal → Option JnlRefusal
foreign_fault version journal = if not (journal.header.start == journal.header.end) && not (version == journaling_version) then Some (ForeignJournal version) else None

-- the first of two faults that stands
abbrev pub or_else : Option JnlRefusal → Option JnlRefusal → Option JnlRefusal
or_else None second = second
or_else (Some first) second = Some first

-- the first fault behind the header, in a dialect
abbrev pub text_fault_as : Dialect → ℕ → ℕ → Journal → Content → Option JnlRefusal
text_fault_as dialect at version journal content = or_else (list_fault_as dialect at journal content) (foreign_fault version journal)

-- the same in the plain dialect
abbrev pub text_fault : ℕ → ℕ → Journal → Content → Option JnlRefusal
text_fault = text_fault_as Plain

-- the sectors that the journal's blocks belong into, in order
abbrev pub homes_of : Journal → Content → List Home
homes_of journal content = let text = text_of journal content in text_homes journal.header.order journal.header.blhdr text (length text) 0

-- the content with the bytes of a text in a sector
abbrev pub with_home : List ℕ → Content → Home → Content
with_home text content home = slice_set content home.sector (bytes_at text home.place 512)

-- the same, home by home
abbrev pub with_homes : List ℕ → List Home → Content → Content
with_homes text homes content = fold (with_home text) content homes

-- the content with the journal's blocks written to their sectors
abbrev pub replayed : Journal → Content → Content
replayed journal content = with_homes (text_of journal content) (homes_of journal content) content

-- what a content stands for in a dialect, given its info block's sector and its last mounted version: the content with
-- the journal's blocks written to their sectors, or the first fault
unfoldable pub recovery_at_as : Dialect → ℕ → ℕ → Content → Result Content JnlRefusal
recovery_at_as dialect at version content =
    and_then (journal_as dialect at content) (λ journal. unless_fault (text_fault_as dialect at version journal content) (replayed journal content))

-- the same in the plain dialect
abbrev pub recovery_at : ℕ → ℕ → Content → Result Content JnlRefusal
recovery_at = recovery_at_as Plain

-- what a content stands for in a dialect, with what the content's own volume header says
abbrev pub recovery_as : Dialect → Content → Result Content JnlRefusal
recovery_as dialect content = recovery_at_as dialect (info_sector_of (header_of_volume content)) (header_of_volume content).last_mounted_version content

-- the same in the plain dialect
abbrev pub recovery : Content → Result Content JnlRefusal
recovery content = recovery_at (info_sector_of (header_of_volume content)) (header_of_volume content).last_mounted_version content
