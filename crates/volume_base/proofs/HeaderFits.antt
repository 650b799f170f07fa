-- The header that a sector of bytes spells fits its fields, and so does one of zeros.
use Rattle.std.proofs.Common.{◌≡◌, ℕ, ◌+◌, ◌≤◌, ◌<◌, List, zero, suc, length, take, drop, replicate, arith}
use Rattle.std.specs.Prelude.{slice_index}
use Rattle.std.proofs.lemmas.List.{length-take, length-drop}
use Rattle.hx_bytes.specs.Field.{AreBytes}
use Rattle.hx_bytes.specs.declared.fields.Order.TheVariants.{Big}
use Rattle.hx_bytes.proofs.Laws.{number_at-fits}
use Rattle.volume_header.specs.Header.{FitsHeader, header_of}
use Rattle.catalog.proofs.FittingBytes.{taken_are, fork_fits}

pub header_fits : (bytes : List ℕ) → AreBytes bytes → length bytes ≡ 512 → FitsHeader (header_of bytes)
header_fits bytes are long = record {
  signature = number_at-fits Big 2 0 bytes are;
  version = number_at-fits Big 2 2 bytes are;
  attributes = number_at-fits Big 4 4 bytes are;
  last_mounted_version = number_at-fits Big 4 8 bytes are;
  journal_info_block = number_at-fits Big 4 12 bytes are;
  create_date = number_at-fits Big 4 16 bytes are;
  modify_date = number_at-fits Big 4 20 bytes are;
  backup_date = number_at-fits Big 4 24 bytes are;
  checked_date = number_at-fits Big 4 28 bytes are;
  file_count = number_at-fits Big 4 32 bytes are;
  folder_count = number_at-fits Big 4 36 bytes are;
  block_size = number_at-fits Big 4 40 bytes are;
  total_blocks = number_at-fits Big 4 44 bytes are;
  free_blocks = number_at-fits Big 4 48 bytes are;
  next_allocation = number_at-fits Big 4 52 bytes are;
  rsrc_clump_size = number_at-fits Big 4 56 bytes are;
  data_clump_size = number_at-fits Big 4 60 bytes are;
  next_catalog_id = number_at-fits Big 4 64 bytes are;
  write_count = number_at-fits Big 4 68 bytes are;
  encodings_bitmap = number_at-fits Big 8 72 bytes are;
  finder_length = omega (arith, length-take 32 (drop 80 bytes), length-drop 80 bytes, long);
  finder_info = taken_are 32 80 bytes are;
  allocation_fork = fork_fits bytes 112 are;
  extents_fork = fork_fits bytes 192 are;
  catalog_fork = fork_fits bytes 272 are;
  attributes_fork = fork_fits bytes 352 are;
  startup_fork = fork_fits bytes 432 are;
}

pub zeros_are : (n k : ℕ) → slice_index (replicate n 0) k < 256
zeros_are zero k = omega arith
zeros_are (suc n) zero = omega arith
zeros_are (suc n) (suc k) = zeros_are n k
