-- The bits of a volume's blocks, read sector by sector from its allocation file.
use Rattle.std.proofs.Common.{◌≡◌, ℕ, ◌+◌, ◌-◌, ◌*◌, ◌/◌, ◌%◌, ◌≤◌, ◌<◌, Bool, false, List, ◌++◌, length, map, refl, sym, ◌∙◌, ap, subst, arith, ⊎_elim}
use Rattle.std.specs.Prelude.{Option, Some, None, slice_get}
use Rattle.std.specs.List.{range_with_len}
use Rattle.std.proofs.lemmas.Bool.{cases_lt}
use Rattle.std.proofs.lemmas.List.{same_lists}
use Rattle.std.proofs.lemmas.List.FromFn.{get_or-map-range_with_len, length-map-range_with_len}
use Rattle.hx_bytes.specs.declared.extents.Extent.{Extent}
use Rattle.flag_rows.specs.Bits.{bit_of, bits_of}
use Rattle.flag_rows.proofs.ByteLaws.{bits_left, bits_right}
use Rattle.flag_rows.proofs.RowLaws.{length-bits_of, get_or-bits_of}
use Rattle.fork_map.specs.Blocks.{fork_sectors}
use Rattle.jnl_format.specs.Recovery.{Content, header_of_volume}
use Rattle.volume_header.specs.declared.header.VolumeHeader.{VolumeHeader}
use Rattle.hfs_volume.specs.Content.{volume_of, is_set, bit_in, bit_of_sector, bitmap_sectors, block_limit, overflow_of_content}
use Rattle.hfs_volume.specs.Forks.{extents_of, allocation_id, data_kind, per_block_of}
use Rattle.hfs_volume.specs.Records.{Overflow}
use Rattle.fsck_scan.specs.Read.{sector_or_zeros}
use Rattle.fsck_core.specs.Behind.{fork_bit}
use Rattle.fsck_core.specs.Flags.{AreBits}
use Rattle.fsck_core.proofs.BehindLaws.{no_bit}

-- the bits that were read, with those of one sector more
pub bits_more : (content : Content) (limit : ℕ) (sectors bytes sector new : List ℕ) (at : ℕ) → length bytes ≡ at * 512 → new ≡ bytes ++ sector → ((k : ℕ) → k < at * 4096 → bit_of bytes k ≡ fork_bit content limit sectors k)
    → sector ≡ sector_or_zeros content limit (slice_get sectors at) → (k : ℕ) → k < (at + 1) * 4096 → bit_of new k ≡ fork_bit content limit sectors k
unfolding fork_bit
bits_more content limit sectors bytes sector new at size is before one k less = ap (λ (l : List ℕ). bit_of l k) is ∙ ⊎_elim
    (λ (low : k < at * 4096). bits_left bytes sector k (omega (arith, low, size)) ∙ before k low)
    (λ (high : at * 4096 ≤ k).
    let place : k / 4096 ≡ at = omega (arith, high, less) in
    let rest : k % 4096 ≡ k - at * 4096 = omega (arith, high, less) in
    bits_right bytes sector k (k - at * 4096) (omega (arith, size, high))
    ∙ ap (λ (l : List ℕ). bit_of l (k - at * 4096)) one
    ∙ (λ i. bit_of (sector_or_zeros content limit (slice_get sectors (sym place i))) (sym rest i)))
    (cases_lt k (at * 4096))

-- the bit of a block is that of the allocation file's fork
set_there : (content : Content) (k : ℕ) → k < 8 * (header_of_volume content).allocation_fork.logical_size → is_set (volume_of content) k ≡ fork_bit content (block_limit content) (bitmap_sectors content) k
unfolding volume_of fork_bit bit_in bit_of_sector
set_there content k less =
    get_or-map-range_with_len (bit_in content (bitmap_sectors content)) 0 (8 * (header_of_volume content).allocation_fork.logical_size) k k false less (omega arith) ∙ by (slice_get (bitmap_sectors content) (k / 4096))
  where
    by : (o : Option ℕ) → bit_of_sector content (k % 4096) o ≡ bit_of (sector_or_zeros content (block_limit content) o) (k % 4096)
    by None = sym (no_bit (k % 4096) (omega arith))
    by (Some at) = refl

-- the bits of the first sectors of the allocation file are those of the blocks
bits_there : (content : Content) (bytes : List ℕ) (flags : List Bool) → (header_of_volume content).total_blocks ≤ 8 * (header_of_volume content).allocation_fork.logical_size
    → ((k : ℕ) → k < (header_of_volume content).total_blocks → bit_of bytes k ≡ fork_bit content (block_limit content) (bitmap_sectors content) k) → flags ≡ bits_of (header_of_volume content).total_blocks bytes → AreBits (volume_of content) flags
unfolding volume_of
bits_there content bytes flags fits each is =
    let total : ℕ = (header_of_volume content).total_blocks in
    is ∙ same_lists (bits_of total bytes) (map (is_set (volume_of content)) (range_with_len 0 total)) (length-bits_of total bytes ∙ sym (length-map-range_with_len (is_set (volume_of content)) 0 total)) (λ k d less.
    let below : k < total = omega (arith, less, length-bits_of total bytes) in
    get_or-bits_of total bytes k d below ∙ each k below ∙ sym (set_there content k (omega (arith, below, fits))) ∙ sym (get_or-map-range_with_len (is_set (volume_of content)) 0 total k k d below (omega arith)))

pub bits_are_read : (content : Content) (head : VolumeHeader) (overflow : List Overflow) (extents : List Extent) (limit per_block : ℕ) (bytes : List ℕ) (flags : List Bool) → head ≡ header_of_volume content → overflow ≡ overflow_of_content content
    → extents ≡ extents_of overflow allocation_id data_kind head.allocation_fork → per_block ≡ head.block_size / 512 → limit ≡ head.total_blocks * per_block → head.total_blocks ≤ 8 * head.allocation_fork.logical_size
    → ((k : ℕ) → k < (head.total_blocks + 4095) / 4096 * 4096 → bit_of bytes k ≡ fork_bit content limit (fork_sectors extents per_block) k) → flags ≡ bits_of head.total_blocks bytes → AreBits (volume_of content) flags
bits_are_read content head overflow extents limit per_block bytes flags head_is overflow_is extents_are per_is limit_is fits each is =
    let there : extents ≡ extents_of (overflow_of_content content) allocation_id data_kind (header_of_volume content).allocation_fork = extents_are ∙ (λ i. extents_of (overflow_is i) allocation_id data_kind (head_is i).allocation_fork) in
    let per : per_block ≡ per_block_of (header_of_volume content) = per_is ∙ ap (λ (h : VolumeHeader). h.block_size / 512) head_is in
    let limits : limit ≡ block_limit content = limit_is ∙ (λ i. (head_is i).total_blocks * per i) in
    let total : head.total_blocks ≡ (header_of_volume content).total_blocks = ap (λ (h : VolumeHeader). h.total_blocks) head_is in
    bits_there content bytes flags (subst (λ (h : VolumeHeader). h.total_blocks ≤ 8 * h.allocation_fork.logical_size) head_is fits)
    (λ k less. each k (omega (arith, less, total)) ∙ (λ i. fork_bit content (limits i) (fork_sectors (there i) (per i)) k)) (is ∙ ap (λ n. bits_of n bytes) total)
