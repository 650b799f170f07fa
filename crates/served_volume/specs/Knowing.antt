-- What a volume that is served knows of itself.
use Rattle.std.specs.Prelude.{◌≡◌, ℕ, Option}
use Rattle.alloc_bitmap.specs.Untold.{told_none}
use Rattle.jnl_format.specs.Recovery.{Content}
use Rattle.sector_disk.specs.Space.{Space}
use Rattle.hfs_volume.specs.Content.{volume_of}
use Rattle.hfs_volume.specs.Sound.{IsSound}
use Rattle.hfs_volume.specs.TreeOf.{tree_of}
use Rattle.volume_base.specs.Keeping.{shrunk_of}
use Rattle.volume_base.specs.Room.{capacity_of}
use Rattle.volume_base.specs.Service.{IsInService}
use Rattle.volume_base.specs.Holding.{IsLaidOutAs}
use Rattle.volume_base.specs.Standing.{StandsOver, IsSettled}
use Rattle.volume_base.specs.Holding.{HoldsOn}
use Rattle.volume_space.specs.Zeroing.{HasFilled}
use Rattle.volume_base.specs.declared.volume.Volume.{Volume}

-- The two contents are sound volumes with the same lists and the same tree: they differ in bytes that no rule looks at.
pub record IsAlike (content other : Content) : Type 0 where
  pub sound : IsSound content
  pub sound_other : IsSound other
  pub lists : volume_of content ≡ volume_of other
  pub tree : tree_of content ≡ tree_of other

-- The volume stands over its space, whose content is like the one that it stands for; the blocks of a growth in hand hold zeros as it says; each block
-- that what was committed last has in use is in use or held, and it has the volume's blocks; a transaction holds so many sectors; and this is the file
-- that was shrunk last.
pub record Knows (volume : Volume) (capacity : ℕ) (committed now : Content) (shrunk : Option ℕ) (space : Space) : Type 0 where
  pub stands : StandsOver volume space
  pub settled : IsSettled volume space.content
  pub filled : HasFilled volume space
  pub holds : HoldsOn committed volume
  pub laid_out : IsLaidOutAs committed volume
  pub was_sound : IsSound committed
  pub capacity_is : capacity_of volume ≡ capacity
  pub shrunk_is : shrunk_of volume ≡ shrunk
  pub alike : IsAlike now space.content

-- the volume is in service on each space of so many sectors
abbrev pub IsOfSize : Volume → ℕ → Type 0
IsOfSize volume sectors = IsInService volume (told_none sectors)

-- a growth in hand takes the blocks that it names, whatever a space tells of their bytes
abbrev pub TakesItsBlocks : Volume → ℕ → Type 0
TakesItsBlocks volume sectors = HasFilled volume (told_none sectors)
