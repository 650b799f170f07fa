-- The header that a sector of bytes spells fits its fields, so with another version it is read back as it was written.
use Rattle.std.proofs.Common.{◌≡◌, ℕ, ◌+◌, List, length, take, drop, refl, arith, inl, inr}
use Rattle.std.proofs.lemmas.Bool.{cases_lt}
use Rattle.std.proofs.lemmas.List.{length-take, length-drop, get_or-take, get_or-drop}
use Rattle.std.proofs.Math.ListN.{get_or-eq_default}
use Rattle.hx_bytes.specs.Field.{AreBytes, big_at}
use Rattle.hx_bytes.specs.Fork.{fork_at, extents_at, FitsExtent, FitsFork}
use Rattle.hx_bytes.specs.declared.fields.Order.TheVariants.{Big}
use Rattle.hx_bytes.proofs.Laws.{number_at-fits}
use Rattle.volume_header.specs.Header.{FitsHeader, header_bytes, header_of}
use Rattle.volume_header.specs.declared.header.VolumeHeader.{VolumeHeader}
use Rattle.hfs_serving.specs.Readying.{version_sector}
use Rattle.hfs_serving.specs.Runs.{version_header}

taken_are : (n at : ℕ) (bytes : List ℕ) → AreBytes bytes → AreBytes (take n (drop at bytes))
taken_are n at bytes are k = elim (cases_lt k n) [
  | inl inside ↦ omega (arith, get_or-take n (drop at bytes) k 0 inside, get_or-drop at bytes k 0, are (at + k))
  | inr past ↦ omega (arith, get_or-eq_default (take n (drop at bytes)) 0 {n = k} (omega (arith, past, length-take n (drop at bytes))))
]

fork_fits : (bytes : List ℕ) (at : ℕ) → AreBytes bytes → FitsFork (fork_at bytes at)
unfolding extents_at
fork_fits bytes at are = record {
  logical_size = number_at-fits Big 8 at bytes are;
  clump_size = number_at-fits Big 4 (at + 8) bytes are;
  total_blocks = number_at-fits Big 4 (at + 12) bytes are;
  extents = record {
    eight = refl;
    each = (one (at + 16), (one (at + 16 + 8), (one (at + 16 + 16), (one (at + 16 + 24), (one (at + 16 + 32), (one (at + 16 + 40), (one (at + 16 + 48), (one (at + 16 + 56), tt))))))));
  };
}
  where
    one : (place : ℕ) → FitsExtent (record { start = big_at 4 bytes place; count = big_at 4 bytes (place + 4) })
    one place = record { start = number_at-fits Big 4 place bytes are; count = number_at-fits Big 4 (place + 4) bytes are }

version_fits : (bytes : List ℕ) → AreBytes bytes → length bytes ≡ 512 → FitsHeader (version_header (header_of bytes))
version_fits bytes are long = record {
  signature = number_at-fits Big 2 0 bytes are;
  version = number_at-fits Big 2 2 bytes are;
  attributes = number_at-fits Big 4 4 bytes are;
  last_mounted_version = omega arith;
  journal_info_block = number_at-fits Big 4 12 bytes are;
  create_date = number_at-fits Big 4 16 bytes are;
  modify_date = number_at-fits Big 4 20 bytes are;
  backup_date = number_at-fits Big 4 24 bytes are;
  checked_date = number_at-fits Big 4 28 bytes are;
  file_count = number_at-fits Big 4 32 bytes are;
  folder_count = number_at-fits Big 4 36 bytes are;
  block_size = number_at-fits Big 4 40 bytes are;
  total_blocks = number_at-fits Big 4 44 bytes are;
  free_blocks = number_at-fits Big 4 48 bytes are;
  next_allocation = number_at-fits Big 4 52 bytes are;
  rsrc_clump_size = number_at-fits Big 4 56 bytes are;
  data_clump_size = number_at-fits Big 4 60 bytes are;
  next_catalog_id = number_at-fits Big 4 64 bytes are;
  write_count = number_at-fits Big 4 68 bytes are;
  encodings_bitmap = number_at-fits Big 8 72 bytes are;
  finder_length = omega (arith, length-take 32 (drop 80 bytes), length-drop 80 bytes, long);
  finder_info = taken_are 32 80 bytes are;
  allocation_fork = fork_fits bytes 112 are;
  extents_fork = fork_fits bytes 192 are;
  catalog_fork = fork_fits bytes 272 are;
  attributes_fork = fork_fits bytes 352 are;
  startup_fork = fork_fits bytes 432 are;
}

pub version_spells : ((head : VolumeHeader) → FitsHeader head → header_of (header_bytes head) ≡ head) → (bytes : List ℕ) → AreBytes bytes → length bytes ≡ 512 → header_of (version_sector bytes) ≡ version_header (header_of bytes)
version_spells law bytes are long = law (version_header (header_of bytes)) (version_fits bytes are long)
