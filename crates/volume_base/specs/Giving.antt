-- Blocks that were taken or given back, counted and put.
use Rattle.std.specs.Prelude.{◌≡◌, ◌⊎◌, ℕ, ◌+◌, ◌==◌, ◌||◌, min, not, Bool, true, false, List, length, if◌then◌else◌}
use Rattle.std.specs.List.{Contains}
use Rattle.alloc_bitmap.specs.Map.{unused_of}
use Rattle.file_io.specs.Places.{given}
use Rattle.flag_rows.specs.Bits.{count_set, sectors_for}
use Rattle.fork_map.specs.Blocks.{blocks_of}
use Rattle.hx_bytes.specs.declared.extents.Extent.{Extent}
use Rattle.jnl_format.specs.Recovery.{header_of_volume}
use Rattle.sector_disk.specs.Lists.{Content}
use Rattle.sector_disk.specs.Space.{AgreesOutside}
use Rattle.volume_header.specs.declared.header.VolumeHeader.{VolumeHeader}
use Rattle.volume_base.specs.Lists.{lists_of}
use Rattle.volume_base.specs.Mapping.{HoldsMap}
use Rattle.volume_base.specs.Standing.{map_sectors}
use Rattle.volume_base.specs.declared.volume.Volume.{Volume}

-- a header with another number of free blocks
abbrev pub with_free_count : ℕ → VolumeHeader → VolumeHeader
with_free_count free head = record head { free_blocks = free }

-- the volume whose header counts the free blocks of its bitmap
abbrev pub counted_anew : Volume → Volume
counted_anew volume = record volume { header = with_free_count (count_set (unused_of volume.map)) volume.header }

-- Bitmap and header of a volume were put: the content has them, and the volume's lists over it are as they were.
pub record PutsCounted (volume : Volume) (before after : Content) : Type 0 where
  pub holds : HoldsMap volume after
  pub headed : header_of_volume after ≡ volume.header
  pub lists : lists_of volume after ≡ lists_of volume before
  pub outside : AgreesOutside (λ s. (s ≡ 2) ⊎ Contains (map_sectors volume) s) before after

-- blocks were taken, or some are given back
abbrev pub is_trade : Bool → List Extent → Bool
is_trade takes old = takes || not (length old == 0)

-- a volume that gave the blocks of these extents back, where blocks were taken before or not
abbrev pub traded : Bool → List Extent → Volume → Volume
traded takes old volume = if is_trade takes old then counted_anew (record volume { map = given old volume.map }) else volume

-- blocks were taken by which bits in so many sectors of the bitmap were changed
abbrev pub takes_some : ℕ → Bool
takes_some touched = not (touched == 0)

-- the sectors that this puts at most, where bits in so many sectors of the bitmap were changed before: those of the bitmap, and the header's
abbrev pub trade_load : ℕ → List Extent → Volume → ℕ
trade_load touched old volume = if is_trade (takes_some touched) old then min (sectors_for (length volume.map.used)) (touched + length (blocks_of old)) + 1 else 0

-- bitmap and header were put where this was a trade of blocks, and nothing else was
abbrev pub PutsTraded : Bool → List Extent → Volume → Content → Content → Type 0
PutsTraded takes old volume before after = (is_trade takes old ≡ true → PutsCounted volume before after) × (is_trade takes old ≡ false → after ≡ before)
