-- The volume that the program makes on a disk of so many sectors.
use Rattle.std.specs.Prelude.{◌≡◌, ◌⊎◌, ◌<◌, ◌*◌, ◌/◌, ℕ, List, min, codes}
use Rattle.sector_disk.specs.Disk.{State, HasNothingPending, content}
use Rattle.volume_make.specs.Layout.{layout_of, free_of}
use Rattle.volume_make.specs.Written.{IsFormatted}
use Rattle.volume_make.specs.declared.layout.Layout.{Layout}
use Rattle.fresh_volume.specs.Fresh.{IsFreshVolume}
use Rattle.hfs_volume.specs.declared.summary.Summary.{Summary}

-- no volume has so many sectors
abbrev pub IsNoSize : ℕ → Type 0
IsNoSize sectors = (sectors < 16384) ⊎ (2147483648 < sectors)

-- the sectors of its journal: an eighth of all, in whole blocks of eight sectors, and 65,536 at most
abbrev pub journal_sectors : ℕ → ℕ
journal_sectors sectors = min (sectors / 64 * 8) 65536

-- where its parts lie, in blocks of 4,096 bytes
abbrev pub made_layout : ℕ → Layout
made_layout sectors = layout_of sectors 4096 (journal_sectors sectors)

-- its name
abbrev pub made_name : List ℕ
made_name = codes "untitled"

-- A volume was made on the disk: each of its parts has its text and zeros behind it, all other sectors are as they were, and
-- nothing is pending. It is sound, with the root alone, and can be mounted.
pub record IsMade (old new : State) : Type 0 where
  pub parts : IsFormatted (made_layout old.sectors) made_name (content old) (content new)
  pub settled : HasNothingPending new
  pub fresh : IsFreshVolume (content new)

-- its blocks, and those that are free
pub record HasBlocks (sectors : ℕ) (summary : Summary) : Type 0 where
  pub blocks : summary.blocks ≡ (made_layout sectors).total
  pub free : summary.free ≡ free_of (made_layout sectors)
