-- The volume header as it stands in its sector, all numbers big-endian (TN1150, "Volume Header").
use Rattle.std.specs.Prelude.{◌≡◌, ℕ, ◌^◌, ◌<◌, List, ◌++◌, length, take, drop}
use Rattle.hx_bytes.specs.Field.{big, big_at, AreBytes}
use Rattle.hx_bytes.specs.Fork.{fork_at, fork_bytes, FitsFork}
use Rattle.volume_header.specs.declared.header.VolumeHeader.{VolumeHeader}

-- the header in the 512 bytes of a sector, each field at its offset
abbrev pub header_of : List ℕ → VolumeHeader
header_of sector = record {
  signature = big_at 2 sector 0;
  version = big_at 2 sector 2;
  attributes = big_at 4 sector 4;
  last_mounted_version = big_at 4 sector 8;
  journal_info_block = big_at 4 sector 12;
  create_date = big_at 4 sector 16;
  modify_date = big_at 4 sector 20;
  backup_date = big_at 4 sector 24;
  checked_date = big_at 4 sector 28;
  file_count = big_at 4 sector 32;
  folder_count = big_at 4 sector 36;
  block_size = big_at 4 sector 40;
  total_blocks = big_at 4 sector 44;
  free_blocks = big_at 4 sector 48;
  next_allocation = big_at 4 sector 52;
  rsrc_clump_size = big_at 4 sector 56;
  data_clump_size = big_at 4 sector 60;
  next_catalog_id = big_at 4 sector 64;
  write_count = big_at 4 sector 68;
  encodings_bitmap = big_at 8 sector 72;
  finder_info = take 32 (drop 80 sector);
  allocation_fork = fork_at sector 112;
  extents_fork = fork_at sector 192;
  catalog_fork = fork_at sector 272;
  attributes_fork = fork_at sector 352;
  startup_fork = fork_at sector 432;
}

-- what the volume is: bytes 0 to 15
abbrev pub identity_bytes : VolumeHeader → List ℕ
identity_bytes head =
    big 2 head.signature ++ big 2 head.version ++ big 4 head.attributes ++ big 4 head.last_mounted_version ++ big 4 head.journal_info_block

-- dates and counts: bytes 16 to 39
abbrev pub history_bytes : VolumeHeader → List ℕ
history_bytes head =
    big 4 head.create_date ++ big 4 head.modify_date ++ big 4 head.backup_date ++ big 4 head.checked_date
    ++ big 4 head.file_count ++ big 4 head.folder_count

-- the allocation blocks: bytes 40 to 63
abbrev pub blocks_bytes : VolumeHeader → List ℕ
blocks_bytes head =
    big 4 head.block_size ++ big 4 head.total_blocks ++ big 4 head.free_blocks ++ big 4 head.next_allocation
    ++ big 4 head.rsrc_clump_size ++ big 4 head.data_clump_size

-- what is counted on, and the Finder's bytes: bytes 64 to 111
abbrev pub counters_bytes : VolumeHeader → List ℕ
counters_bytes head =
    big 4 head.next_catalog_id ++ big 4 head.write_count ++ big 8 head.encodings_bitmap ++ head.finder_info

-- the five special forks: bytes 112 to 511
abbrev pub forks_bytes : VolumeHeader → List ℕ
forks_bytes head =
    fork_bytes head.allocation_fork ++ fork_bytes head.extents_fork ++ fork_bytes head.catalog_fork
    ++ fork_bytes head.attributes_fork ++ fork_bytes head.startup_fork

-- the header's 512 bytes, which fill its sector
unfoldable pub header_bytes : VolumeHeader → List ℕ
header_bytes head = identity_bytes head ++ history_bytes head ++ blocks_bytes head ++ counters_bytes head ++ forks_bytes head

-- each number fits its field
pub record FitsHeader (head : VolumeHeader) : Type 0 where
  pub signature : head.signature < 2 ^ 16
  pub version : head.version < 2 ^ 16
  pub attributes : head.attributes < 2 ^ 32
  pub last_mounted_version : head.last_mounted_version < 2 ^ 32
  pub journal_info_block : head.journal_info_block < 2 ^ 32
  pub create_date : head.create_date < 2 ^ 32
  pub modify_date : head.modify_date < 2 ^ 32
  pub backup_date : head.backup_date < 2 ^ 32
  pub checked_date : head.checked_date < 2 ^ 32
  pub file_count : head.file_count < 2 ^ 32
  pub folder_count : head.folder_count < 2 ^ 32
  pub block_size : head.block_size < 2 ^ 32
  pub total_blocks : head.total_blocks < 2 ^ 32
  pub free_blocks : head.free_blocks < 2 ^ 32
  pub next_allocation : head.next_allocation < 2 ^ 32
  pub rsrc_clump_size : head.rsrc_clump_size < 2 ^ 32
  pub data_clump_size : head.data_clump_size < 2 ^ 32
  pub next_catalog_id : head.next_catalog_id < 2 ^ 32
  pub write_count : head.write_count < 2 ^ 32
  pub encodings_bitmap : head.encodings_bitmap < 2 ^ 64
  pub finder_length : length head.finder_info ≡ 32
  pub finder_info : AreBytes head.finder_info
  pub allocation_fork : FitsFork head.allocation_fork
  pub extents_fork : FitsFork head.extents_fork
  pub catalog_fork : FitsFork head.catalog_fork
  pub attributes_fork : FitsFork head.attributes_fork
  pub startup_fork : FitsFork head.startup_fork
