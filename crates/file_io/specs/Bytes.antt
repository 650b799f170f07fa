-- The bytes of files: what a fork holds, and what a write leaves.
use Rattle.std.specs.Prelude.{◌≡◌, ℕ, ◌+◌, ◌-◌, ◌/◌, ◌≤◌, ◌<◌, ◌%◌, List, ◌++◌, length, take, drop, replicate, slice_index, nat_le, nat_lt, ◌&&◌, if◌then◌else◌}
use Rattle.std.specs.List.{flat_map}
use Rattle.hx_bytes.specs.declared.extents.Extent.{Extent}
use Rattle.sector_disk.specs.Lists.{Content, sector}
use Rattle.fork_map.specs.Blocks.{blocks_of, sectors_of}

-- at least so many bytes, with zeros behind the others
abbrev pub padded : ℕ → List ℕ → List ℕ
padded size bytes = bytes ++ replicate (size - length bytes) 0

-- the 512 bytes of a sector
unfoldable pub sector_bytes : Content → ℕ → List ℕ
sector_bytes content at = take 512 (padded 512 (sector content at))

-- the bytes of these sectors, in order
abbrev pub bytes_in : Content → List ℕ → List ℕ
bytes_in content sectors = flat_map (λ at. sector_bytes content at) sectors

-- the byte at a place of these sectors
abbrev pub byte_in : Content → List ℕ → ℕ → ℕ
byte_in content sectors q = slice_index (sector_bytes content (slice_index sectors (q / 512))) (q % 512)

-- the byte at a place of a file that has so many bytes in these sectors, and zeros behind them
abbrev pub old_byte : Content → List ℕ → ℕ → ℕ → ℕ
old_byte content sectors size q = if nat_lt q size then byte_in content sectors q else 0

-- the byte at a place of that file after a value was written at a place
abbrev pub new_byte : Content → List ℕ → ℕ → ℕ → List ℕ → ℕ → ℕ
new_byte content sectors size from value q = if nat_le from q && nat_lt q (from + length value) then slice_index value (q - from) else old_byte content sectors size q

-- the sectors of a fork, where a block has so many bytes
abbrev pub sectors_in : ℕ → List Extent → List ℕ
sectors_in block fork = sectors_of (block / 512) (blocks_of fork)

-- the bytes of a fork in a content
abbrev pub fork_bytes : Content → ℕ → List Extent → List ℕ
fork_bytes content block fork = bytes_in content (sectors_in block fork)

-- so many of these sectors hold zeros, from a place on
abbrev pub HoldZeros : Content → List ℕ → ℕ → ℕ → Type 0
HoldZeros content sectors place count = (m : ℕ) (k : ℕ) → m < count → k < 512 → slice_index (sector_bytes content (slice_index sectors (place + m))) k ≡ 0

-- a block has whole sectors, and 65,536 bytes at most
pub record IsBlockSize (block : ℕ) : Type 0 where
  pub least : 512 ≤ block
  pub most : block ≤ 65536
  pub whole : block % 512 ≡ 0

-- the bytes of a file after a value was written at a place, with zeros in a gap before it
abbrev pub written : List ℕ → ℕ → List ℕ → List ℕ
written bytes from value = take from (padded from bytes) ++ value ++ drop (from + length value) bytes
