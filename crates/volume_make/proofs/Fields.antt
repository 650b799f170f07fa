-- Each number of the header of a volume that can be made fits its field.
use Rattle.std.proofs.Common.{◌≡◌, ◌<◌, ◌≤◌, ℕ, ◌*◌, ◌^◌, true, replicate, inl, inr, refl, arith}
use Rattle.std.proofs.lemmas.Bool.{cases_lt}
use Rattle.std.proofs.lemmas.List.{get_or-replicate, get_or_past, length-replicate}
use Rattle.hx_bytes.specs.Field.{AreBytes}
use Rattle.hx_bytes.specs.Fork.{FitsExtent, FitsExtents, FitsFork}
use Rattle.hx_bytes.specs.declared.extents.Extent.{Extent}
use Rattle.volume_header.specs.Header.{header_of, FitsHeader}
use Rattle.volume_header.proofs.ReadBack.{header_of-header_bytes}
use Rattle.hfs_model.specs.Fresh.{one_run}
use Rattle.volume_make.specs.Refusal.{is_block_size}
use Rattle.volume_make.specs.Layout.{CanBe, layout_of}
use Rattle.volume_make.specs.Texts.{special_fork, fresh_header, header_text}
use Rattle.volume_make.proofs.Sizes.{each_size, fitting}

fits_extent : (start count : ℕ) → start < 2 ^ 32 → count < 2 ^ 32 → FitsExtent (record { start = start; count = count })
fits_extent start count a b = record { start = a; count = b }

pub fits_run : (start count : ℕ) → start < 2 ^ 32 → count < 2 ^ 32 → FitsExtents (one_run start count)
fits_run start count a b =
    let none = fits_extent 0 0 (omega arith) (omega arith) in
    record { eight = refl; each = (fits_extent start count a b, (none, (none, (none, (none, (none, (none, (none, tt)))))))) }

-- a block size and the bytes of so many blocks
pub fits_size : (b : ℕ) → is_block_size b ≡ true → b < 2 ^ 32
fits_size b is = each_size (λ n. n < 2 ^ 32) (omega arith) (omega arith) (omega arith) (omega arith) (omega arith) (omega arith) (omega arith) (omega arith) b is

pub fits_bytes : (count b : ℕ) → is_block_size b ≡ true → count ≤ 268435456 → count * b < 2 ^ 64
fits_bytes count b is few =
    each_size (λ n. count * n < 2 ^ 64) (omega (arith, few)) (omega (arith, few)) (omega (arith, few)) (omega (arith, few)) (omega (arith, few)) (omega (arith, few)) (omega (arith, few)) (omega (arith, few)) b is

fits_special : (b : ℕ) (part : Extent) → is_block_size b ≡ true → part.start ≤ 268435456 → part.count ≤ 268435456 → FitsFork (special_fork b part)
fits_special b part is low few = record {
  logical_size = fits_bytes part.count b is few;
  clump_size = fits_size b is;
  total_blocks = omega (arith, few);
  extents = fits_run part.start part.count (omega (arith, low)) (omega (arith, few));
}

abbrev zero_byte : ℕ
zero_byte = 0

pub zeros : AreBytes (replicate 32 zero_byte)
zeros k = elim (cases_lt k 32) [
  | inl inside ↦ omega (arith, get_or-replicate 32 k zero_byte zero_byte inside)
  | inr past ↦ omega (arith, get_or_past (replicate 32 zero_byte) k zero_byte (omega (arith, past, length-replicate 32 zero_byte)))
]

header_fits : (s b j : ℕ) → CanBe s b j → FitsHeader (fresh_header (layout_of s b j))
unfolding layout_of
header_fits s b j can =
    let f = fitting s b j can in
    let size = fits_size b can.block_size in
    let layout = layout_of s b j in
    record {
      signature = omega arith;
      version = omega arith;
      attributes = omega arith;
      last_mounted_version = omega arith;
      journal_info_block = omega (arith, f.free, f.total);
      create_date = omega arith;
      modify_date = omega arith;
      backup_date = omega arith;
      checked_date = omega arith;
      file_count = omega arith;
      folder_count = omega arith;
      block_size = size;
      total_blocks = omega (arith, f.total);
      free_blocks = omega (arith, f.total);
      next_allocation = omega (arith, f.free, f.total);
      rsrc_clump_size = size;
      data_clump_size = size;
      next_catalog_id = omega arith;
      write_count = omega arith;
      encodings_bitmap = omega arith;
      finder_length = refl;
      finder_info = zeros;
      allocation_fork = fits_special b layout.bitmap can.block_size (omega (arith, f.free, f.total)) (omega (arith, f.free, f.total));
      extents_fork = fits_special b layout.extents can.block_size (omega (arith, f.free, f.total)) (omega (arith, f.free, f.total));
      catalog_fork = fits_special b layout.catalog can.block_size (omega (arith, f.free, f.total)) (omega (arith, f.free, f.total));
      attributes_fork = fits_special b layout.attributes can.block_size (omega (arith, f.free, f.total)) (omega (arith, f.free, f.total));
      startup_fork = record { logical_size = omega arith; clump_size = size; total_blocks = omega arith; extents = fits_run 0 0 (omega arith) (omega arith) };
    }

pub header_back : (s b j : ℕ) → CanBe s b j → header_of (header_text (layout_of s b j)) ≡ fresh_header (layout_of s b j)
header_back s b j can = header_of-header_bytes (fresh_header (layout_of s b j)) (header_fits s b j can)
