-- The header in a sector is spelled as the sector.
use Rattle.std.proofs.Common.{◌≡◌, ℕ, List, length, take, drop, refl, ◌∙◌, arith, append_assoc}
use Rattle.std.proofs.lemmas.List.{take_all}
use Rattle.hx_bytes.specs.Field.{AreBytes}
use Rattle.hx_bytes.specs.declared.fields.Order.TheVariants.{Big}
use Rattle.hx_bytes.proofs.Laws.{number_bytes-number_at_2}
use Rattle.hx_bytes.proofs.Spelling.{spelled_first, spelled_2, spelled_4, spelled_8, spelled_part, spelled_fork}
use Rattle.volume_header.specs.Header.{header_bytes, header_of}

pub header_bytes-header_of : (sector : List ℕ) → length sector ≡ 512 → AreBytes sector → header_bytes (header_of sector) ≡ sector
unfolding header_bytes
header_bytes-header_of sector long are =
    let signature = spelled_first sector _ 0 2 (number_bytes-number_at_2 Big sector 0 (omega arith) are) in
    let version = spelled_2 are (omega arith) signature in
    let attributes = spelled_4 are (omega arith) version in
    let last_mounted_version = spelled_4 are (omega arith) attributes in
    let journal_info_block = spelled_4 are (omega arith) last_mounted_version in
    let create_date = spelled_4 are (omega arith) journal_info_block in
    let modify_date = spelled_4 are (omega arith) create_date in
    let backup_date = spelled_4 are (omega arith) modify_date in
    let checked_date = spelled_4 are (omega arith) backup_date in
    let file_count = spelled_4 are (omega arith) checked_date in
    let folder_count = spelled_4 are (omega arith) file_count in
    let block_size = spelled_4 are (omega arith) folder_count in
    let total_blocks = spelled_4 are (omega arith) block_size in
    let free_blocks = spelled_4 are (omega arith) total_blocks in
    let next_allocation = spelled_4 are (omega arith) free_blocks in
    let rsrc_clump_size = spelled_4 are (omega arith) next_allocation in
    let data_clump_size = spelled_4 are (omega arith) rsrc_clump_size in
    let next_catalog_id = spelled_4 are (omega arith) data_clump_size in
    let write_count = spelled_4 are (omega arith) next_catalog_id in
    let encodings_bitmap = spelled_8 are (omega arith) write_count in
    let finder_info = spelled_part (take 32 (drop 80 sector)) 32 encodings_bitmap refl in
    let allocation_fork = spelled_part _ 80 finder_info (spelled_fork sector 112 are (omega arith)) in
    let extents_fork = spelled_part _ 80 allocation_fork (spelled_fork sector 192 are (omega arith)) in
    let catalog_fork = spelled_part _ 80 extents_fork (spelled_fork sector 272 are (omega arith)) in
    let attributes_fork = spelled_part _ 80 catalog_fork (spelled_fork sector 352 are (omega arith)) in
    let startup_fork = spelled_part _ 80 attributes_fork (spelled_fork sector 432 are (omega arith)) in
    simp append_assoc (simp append_assoc at startup_fork.is) ∙ take_all 512 sector (omega arith)
