-- The bits of a fork's bytes, and how many are set behind a place.
use Rattle.std.specs.Prelude.{◌≡◌, ◌<◌, ◌≤◌, ℕ, ◌+◌, ◌-◌, ◌*◌, ◌/◌, ◌%◌, ◌^◌, min, max, Bool, List, [], ◌∷◌, length, take, slice_get, slice_index_or}
use Rattle.std.specs.List.{count_by, range_with_len}
use Rattle.hx_bytes.specs.declared.extents.Extent.{Extent}
use Rattle.fork_map.specs.Blocks.{blocks_of, fork_sectors}
use Rattle.jnl_format.specs.Recovery.{Content}
use Rattle.flag_rows.specs.Bits.{bit_of}
use Rattle.fsck_scan.specs.Read.{sector_or_zeros}
use Rattle.fsck_core.specs.declared.sums.BlockSum.{BlockSum}

-- bit k of the bytes of a fork with these sectors, of which those below a limit belong to the volume
unfoldable pub fork_bit : Content → ℕ → List ℕ → ℕ → Bool
fork_bit content limit sectors k = bit_of (sector_or_zeros content limit (slice_get sectors (k / 4096))) (k % 4096)

-- how many of a fork's bits are set from one place up to another
abbrev pub set_between : Content → ℕ → List ℕ → ℕ → ℕ → ℕ
set_between content limit sectors from to = count_by (fork_bit content limit sectors) (range_with_len from (to - from))

-- how far the bits from one place up to another were looked at, where the sectors before one were
abbrev pub reached : ℕ → ℕ → ℕ → ℕ
reached from to at = min to (max from (at * 4096))

-- how many are set from a place on up to another, in the sectors before one
abbrev pub set_up_to : Content → ℕ → List ℕ → ℕ → ℕ → ℕ → ℕ
set_up_to content limit sectors from to at = count_by (fork_bit content limit sectors) (range_with_len from (reached from to at - from))

-- the blocks of a volume of so many, one behind the other
abbrev pub all_blocks : ℕ → List Extent
all_blocks total = record { start = 0; count = total } ∷ []

-- how many bits are set in so many of a volume's first blocks, where a block has so many sectors
abbrev pub set_before : Content → ℕ → ℕ → ℕ → ℕ → ℕ
set_before content limit total per blocks = set_up_to content limit (fork_sectors (all_blocks total) per) 0 (8 * (total * per * 512)) (blocks * per)

-- the number that is told of these
abbrev pub told_before : Content → ℕ → ℕ → ℕ → ℕ → ℕ
told_before content limit total per blocks = min (set_before content limit total per blocks) (2 ^ 64 - 1)

-- Each of these is how many bits are set before a block.
abbrev pub HasSums : Content → ℕ → ℕ → ℕ → List BlockSum → Type 0
HasSums content limit total per sums = (none : BlockSum) (i : ℕ) → i < length sums → (slice_index_or sums i none).bits ≡ told_before content limit total per (slice_index_or sums i none).block

-- The blocks of an extent that lie in the volume are whole sectors of what is counted, from a place of the fork up to another.
pub record IsWhole (total per size inside front at upto : ℕ) : Type 0 where
  pub begins : at ≡ front * per
  pub ends : upto ≡ (front + inside) * per
  pub first : total ≤ at * 4096
  pub last : upto * 512 ≤ size

-- An extent stands at a place of a fork, behind so many blocks of it, and so many of its own lie in the volume.
pub record IsExtentAt (extents : List Extent) (index total start inside front : ℕ) : Type 0 where
  pub within : index < length extents
  pub start_is : start ≡ (slice_index_or extents index (record { start = 0; count = 0 })).start
  pub inside_is : inside ≡ min (slice_index_or extents index (record { start = 0; count = 0 })).count (total - start)
  pub front_is : front ≡ length (blocks_of (take index extents))
