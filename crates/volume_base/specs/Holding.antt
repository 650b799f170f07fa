-- The blocks that a content has in use, beside those that a volume in service has in use or holds.
use Rattle.std.specs.Prelude.{◌≡◌, ◌⊎◌, ℕ, true, false, length, slice_index_or}
use Rattle.jnl_format.specs.Recovery.{header_of_volume}
use Rattle.sector_disk.specs.Lists.{Content}
use Rattle.hfs_volume.specs.Content.{volume_of, is_set}
use Rattle.volume_base.specs.declared.volume.Volume.{Volume}

-- for each block it is kept whether it is held, and each one that a content has in use is in use or held now
abbrev pub HoldsOn : Content → Volume → Type 0
HoldsOn committed volume = (length volume.map.held ≡ length volume.map.used) × ((block : ℕ) → is_set (volume_of committed) block ≡ true → (slice_index_or volume.map.used block false ≡ true) ⊎ (slice_index_or volume.map.held block false ≡ true))

-- A content has blocks of the volume's size, and as many.
pub record IsLaidOutAs (committed : Content) (volume : Volume) : Type 0 where
  pub block : (header_of_volume committed).block_size ≡ volume.header.block_size
  pub total : (header_of_volume committed).total_blocks ≡ length volume.map.used

-- No block that a content has in use is lost, and the file shrunk last and the capacity are as they were.
pub record KeepsUsed (old new : Volume) : Type 0 where
  pub holds : (committed : Content) → HoldsOn committed old → HoldsOn committed new
  pub shrunk : new.shrunk ≡ old.shrunk
  pub capacity : new.capacity ≡ old.capacity
