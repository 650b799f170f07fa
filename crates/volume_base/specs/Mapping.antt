-- The bits that a content has in the file of the bitmap, beside those that a volume keeps.
use Rattle.std.specs.Prelude.{◌≡◌, ◌<◌, ℕ, ◌/◌, false, List, length, slice_index_or}
use Rattle.std.specs.List.{Contains}
use Rattle.sector_disk.specs.Lists.{Content}
use Rattle.sector_disk.specs.Space.{AgreesOutside}
use Rattle.alloc_bitmap.specs.Fork.{changed_of, fork_bit}
use Rattle.volume_base.specs.Lists.{bits_on, lists_of}
use Rattle.volume_base.specs.Standing.{map_sectors}
use Rattle.volume_base.specs.declared.volume.Volume.{Volume}

-- the content has this bit as the volume keeps it
abbrev pub HasBit : Volume → Content → ℕ → Type 0
HasBit volume content k = fork_bit content (map_sectors volume) k ≡ slice_index_or (bits_on volume) k false

-- The content has the bits that the volume keeps.
abbrev pub HoldsMap : Volume → Content → Type 0
HoldsMap volume content = (k : ℕ) → k < length (bits_on volume) → HasBit volume content k

-- It has those that stand in sectors which weren't changed since the last keep.
abbrev pub HoldsUnchanged : Volume → Content → Type 0
HoldsUnchanged volume content = (k : ℕ) → k < length (bits_on volume) → slice_index_or volume.map.changed (k / 4096) false ≡ false → HasBit volume content k

-- the sectors of the bitmap that were changed since the last keep
abbrev pub changed_sectors : Volume → List ℕ
changed_sectors volume = changed_of (map_sectors volume) volume.map.changed

-- The bitmap was put: the content has the bits that the volume keeps, and the volume's lists over it are as they were.
pub record PutsMap (volume : Volume) (before after : Content) : Type 0 where
  pub holds : HoldsMap volume after
  pub lists : lists_of volume after ≡ lists_of volume before
  pub outside : AgreesOutside (λ s. Contains (map_sectors volume) s) before after
