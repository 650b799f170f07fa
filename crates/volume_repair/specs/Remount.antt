-- A content as another mount leaves it, before it changes anything else, and its repair.
use Rattle.std.specs.Prelude.{◌≡◌, ◌≢◌, ◌⊎◌, ℕ, ◌-◌, List, length}
use Rattle.volume_header.specs.declared.header.VolumeHeader.{VolumeHeader}
use Rattle.jnl_format.specs.Recovery.{Content, sector, header_of_volume}
use Rattle.hfs_volume.specs.Aside.{IsJournalSector, NamesJournal}
use Rattle.hfs_volume.specs.Findings.{HasBytes}
use Rattle.hfs_volume.specs.Sound.{IsSound}
use Rattle.volume_repair.specs.Differing.{differing}
use Rattle.volume_repair.specs.Recount.{with_word}
use Rattle.volume_repair.specs.Repair.{IsRepair}

-- The content has another last mounted version in its header, and other bytes in its journal and in the info block, which still names that journal.
pub record IsRemounted (content now : Content) : Type 0 where
  pub size : length now ≡ length content
  pub header : header_of_volume now ≡ record (header_of_volume content) { last_mounted_version = (header_of_volume now).last_mounted_version }
  pub names : NamesJournal content now
  pub each : (at : ℕ) → at ≢ 2 → (sector now at ≡ sector content at) ⊎ IsJournalSector content at

-- a header has the same fields, but for its counts
abbrev pub IsSameButCounts : VolumeHeader → VolumeHeader → Type 0
IsSameButCounts old new = new ≡ record old { file_count = new.file_count; folder_count = new.folder_count; free_blocks = new.free_blocks }

-- What a repair of a remounted content is, where the repair of the content itself is sound.
pub record StaysRemounted (content mended now other : Content) : Type 0 where
  pub sound : IsSound other
  pub count : differing now other ≡ differing content mended
  pub journal : (at : ℕ) → IsJournalSector content at → sector other at ≡ sector now at
  pub header : IsSameButCounts (header_of_volume now) (header_of_volume other)

-- The repair of a remounted content of bytes, whose header has 512, where the repair of the content itself is sound: it is sound, it differs in
-- as many sectors, and it has the journal and the version of the remounted content.
abbrev pub RepairStaysRemounted : Type 0
RepairStaysRemounted =
    (content mended now other : Content) → HasBytes content → HasBytes now → length (sector content 2) ≡ 512 → length (sector now 2) ≡ 512
    → IsRepair content mended → IsSound mended → IsRemounted content now → IsRepair now other → StaysRemounted content mended now other

-- a header's sector with the counts of a header
abbrev pub with_counts_of : VolumeHeader → List ℕ → List ℕ
with_counts_of head bytes = with_word 32 head.file_count (with_word 36 head.folder_count (with_word 48 head.free_blocks bytes))

-- the sector is the one that the repair has there, where it differs from the content, and else as it is now
abbrev pub IsKeptAt : Content → Content → Content → Content → ℕ → Type 0
IsKeptAt content mended now other at = (sector mended at ≡ sector content at → sector other at ≡ sector now at) × ((sector mended at ≡ sector content at → ⊥) → sector other at ≡ sector mended at)

-- What of a repair serves after a remount: all its sectors, but the header's, which takes the counts alone, and the alternate header's, which
-- is a copy of it.
pub record IsRenewed (content mended now other : Content) : Type 0 where
  pub header : sector other 2 ≡ with_counts_of (header_of_volume mended) (sector now 2)
  pub stays : sector mended (length content - 2) ≡ sector content (length content - 2) → sector other (length content - 2) ≡ sector now (length content - 2)
  pub copy : (sector mended (length content - 2) ≡ sector content (length content - 2) → ⊥) → sector other (length content - 2) ≡ sector other 2
  pub elsewhere : (at : ℕ) → at ≢ 2 → at ≢ length content - 2 → IsKeptAt content mended now other at

-- The repair of a remounted content needn't be looked for again, where the repair of the content itself is sound.
abbrev pub RepairIsRenewed : Type 0
RepairIsRenewed =
    (content mended now other : Content) → length (sector content 2) ≡ 512 → length (sector now 2) ≡ 512
    → IsRepair content mended → IsSound mended → IsRemounted content now → IsRepair now other → IsRenewed content mended now other
