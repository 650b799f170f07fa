-- Sectors of the allocation file with a bit for each block that is used.
use Rattle.std.specs.Prelude.{◌≡◌, ◌<◌, ℕ, ◌+◌, ◌*◌, Bool, nat_lt, List, map, slice_index, slice_get, Some, if◌then◌else◌}
use Rattle.std.specs.List.{range_with_len}
use Rattle.sector_disk.specs.Lists.{Content, sector}
use Rattle.volume_repair.specs.Repair.{sector_mended, byte_of_bits}
use Rattle.fsck_repair.specs.Counted.{IsPlain}

-- a sector at this place of an allocation file of so many bytes, with these bits; behind the file's end its bytes stay
abbrev pub bits_written : (ℕ → Bool) → ℕ → ℕ → List ℕ → List ℕ
bits_written is_set size place bytes = map (λ i. if nat_lt (512 * place + i) size then byte_of_bits is_set (512 * place + i) else slice_index bytes i) (range_with_len 0 512)

-- the repair has these bits in a sector at this place of the allocation file
abbrev pub MendsBitmap : Content → (ℕ → Bool) → ℕ → ℕ → ℕ → Type 0
MendsBitmap content is_set size place at = sector_mended content at ≡ bits_written is_set size place (sector content at)

-- a sector that begins before the end of an allocation file of so many bytes in these sectors, and is none of the headers' that are written
abbrev pub IsPlainPlace : Content → ℕ → List ℕ → ℕ → Type 0
IsPlainPlace content size sectors at = IsPlain content at × (place : ℕ) × (place * 512 < size) × (slice_get sectors place ≡ Some at)
