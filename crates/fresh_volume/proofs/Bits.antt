-- The bits of the allocation file of a volume that was just made.
use Rattle.std.proofs.Common.{◌≡◌, ℕ, ◌+◌, ◌*◌, ◌/◌, ◌%◌, ◌<◌, ◌≤◌, List, [], ◌∷◌, slice_get, Some, IsTrue, refl, ◌∙◌, ap, arith, ⊎_elim, zero-mul}
use Rattle.std.specs.List.{range_with_len}
use Rattle.std.proofs.lemmas.List.FromFn.{length-range_with_len, get_or-range_with_len}
use Rattle.std.proofs.lemmas.Bool.{cases_lt}
use Rattle.std.proofs.lemmas.Option.{slice_get-get_or}
use Rattle.hx_bytes.specs.declared.extents.Extent.{Extent}
use Rattle.volume_header.specs.declared.header.VolumeHeader.{VolumeHeader}
use Rattle.fork_map.specs.Blocks.{blocks_of, sectors_of}
use Rattle.flag_rows.specs.Bits.{bit_of}
use Rattle.flag_rows.proofs.Bitmaps.{bit_of-bits_bytes, length-bits_bytes}
use Rattle.jnl_format.specs.Recovery.{Content, header_of_volume}
use Rattle.hfs_volume.specs.Forks.{extents_of, allocation_id, data_kind, per_block_of}
use Rattle.hfs_volume.specs.Content.{block_limit, block_sector, bit_of_sector, bit_in, bitmap_sectors, overflow_of_content}
use Rattle.volume_make.specs.declared.layout.Layout.{Layout}
use Rattle.volume_make.specs.Layout.{CanBe, IsFitting, layout_of, first_of, count_of, is_used}
use Rattle.volume_make.specs.Refusal.{is_name}
use Rattle.volume_make.specs.Texts.{bitmap_sector}
use Rattle.volume_make.specs.Written.{IsFormatted}
use Rattle.volume_make.proofs.Sizes.{fitting}
use Rattle.fresh_volume.proofs.Pieces.{one_sector}
use Rattle.fresh_volume.proofs.Trees.{head_is, limit_is, no_overflow, run_extents, run_sectors, has_blocks, last_end}

-- the sector of a range
place_of : (first count k : ℕ) → k < count → slice_get (range_with_len first count) k ≡ Some (first + k)
place_of first count k inside =
    slice_get-get_or (range_with_len first count) k 0 (omega (arith, length-range_with_len first count)) ∙ ap Some (get_or-range_with_len first count k 0 inside)

module _ (sectors block journal : ℕ) (name : List ℕ) (old new : Content) (can : CanBe sectors block journal) (named : IsTrue (is_name name)) (made : IsFormatted (layout_of sectors block journal) name old new) where
  abbrev layout : Layout
  layout = layout_of sectors block journal

  fit : IsFitting layout
  fit = fitting sectors block journal can

  pub some : 1 ≤ count_of layout layout.bitmap
  some =
      let per : ℕ = layout.block / 512 in
      let blocks : 0 < layout.catalog.count =
      ⊎_elim (λ (above : 0 < layout.catalog.count). above)
      (λ (none : layout.catalog.count ≤ 0).
      let zero_is : layout.catalog.count ≡ 0 = omega (arith, none) in
      let nothing : count_of layout layout.catalog ≡ 0 = ap (λ (k : ℕ). k * per) zero_is ∙ zero-mul per in
      absurd (omega (arith, nothing, fit.catalog_room)))
      (cases_lt 0 layout.catalog.count) in
      omega (arith, fit.bits, fit.free, blocks)

  list_is : bitmap_sectors new ≡ range_with_len (first_of layout layout.bitmap) (count_of layout layout.bitmap)
  list_is =
      let part : Extent = layout.bitmap in
      let run : Extent = record { start = part.start; count = part.count } in
      let head = head_is sectors block journal name old new can named made in
      let extents : extents_of (overflow_of_content new) allocation_id data_kind (header_of_volume new).allocation_fork ≡ run ∷ [] =
      ap (λ (h : VolumeHeader). extents_of (overflow_of_content new) allocation_id data_kind h.allocation_fork) head
      ∙ run_extents (overflow_of_content new) allocation_id layout.block part (no_overflow sectors block journal name old new can named made) (has_blocks layout part (count_of layout part) refl (omega (arith, some))) in
      ap (λ (es : List Extent). sectors_of (per_block_of (header_of_volume new)) (blocks_of es)) extents ∙ ap (λ (h : VolumeHeader). sectors_of (per_block_of h) (blocks_of (run ∷ []))) head ∙ run_sectors layout part

  pub has_fresh_bits : (k : ℕ) → k < 4096 * count_of layout layout.bitmap → bit_in new (bitmap_sectors new) k ≡ is_used layout k
  unfolding bit_in bit_of_sector
  has_fresh_bits k inside =
      let first : ℕ = first_of layout layout.bitmap in
      let count : ℕ = count_of layout layout.bitmap in
      let j : ℕ = k / 4096 in
      let low : j < count = omega (arith, inside) in
      let end = last_end layout fit in
      let limit = limit_is sectors block journal name old new can named made in
      let below : first + j < block_limit new = omega (arith, limit, end, low, fit.info, fit.journal, fit.extents, fit.attributes, fit.catalog) in
      let text : block_sector new (block_limit new) (first + j) ≡ bitmap_sector layout j =
      one_sector new (block_limit new) (first + j) (bitmap_sector layout j) below (made.bitmap j low) (length-bits_bytes (is_used layout) (j * 4096) 512) in
      ap (λ (l : List ℕ). bit_of_sector new (k % 4096) (slice_get l j)) list_is
      ∙ ap (bit_of_sector new (k % 4096)) (place_of first count j low)
      ∙ ap (λ (bytes : List ℕ). bit_of bytes (k % 4096)) text
      ∙ bit_of-bits_bytes (is_used layout) (j * 4096) 512 (k % 4096) (omega arith)
      ∙ ap (is_used layout) {x = j * 4096 + k % 4096} {y = k} (omega arith)
