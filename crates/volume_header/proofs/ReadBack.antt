-- A written header is read as it was.
use Rattle.std.proofs.Common.{◌≡◌, ℕ, List, [], ◌++◌, refl, append_assoc}
use Rattle.std.proofs.lemmas.List.{append-nil}
use Rattle.hx_bytes.specs.Field.{big}
use Rattle.hx_bytes.specs.Fork.{fork_bytes}
use Rattle.hx_bytes.proofs.Forks.{length-fork_bytes, length-extents_bytes}
use Rattle.hx_bytes.proofs.Reading.{Behind, behind_number, behind_part, number_here, part_here, fork_here}
use Rattle.volume_header.specs.Header.{FitsHeader, header_bytes, header_of}
use Rattle.volume_header.specs.declared.header.VolumeHeader.{VolumeHeader}

-- the header's fields, joined from the right
abbrev nested_bytes : VolumeHeader → List ℕ
nested_bytes head =
    big 2 head.signature ++ (big 2 head.version ++ (big 4 head.attributes ++ (
    big 4 head.last_mounted_version ++ (big 4 head.journal_info_block ++ (big 4 head.create_date ++ (
    big 4 head.modify_date ++ (big 4 head.backup_date ++ (big 4 head.checked_date ++ (
    big 4 head.file_count ++ (big 4 head.folder_count ++ (big 4 head.block_size ++ (
    big 4 head.total_blocks ++ (big 4 head.free_blocks ++ (big 4 head.next_allocation ++ (
    big 4 head.rsrc_clump_size ++ (big 4 head.data_clump_size ++ (big 4 head.next_catalog_id ++ (
    big 4 head.write_count ++ (big 8 head.encodings_bitmap ++ (head.finder_info ++ (
    fork_bytes head.allocation_fork ++ (fork_bytes head.extents_fork ++ (fork_bytes head.catalog_fork ++ (
    fork_bytes head.attributes_fork ++ (fork_bytes head.startup_fork ++ [])))))))))))))))))))))))))

nested-is : (head : VolumeHeader) → header_bytes head ≡ nested_bytes head
unfolding header_bytes
nested-is head = simp (append_assoc, append-nil)

pub header_of-header_bytes : (head : VolumeHeader) → FitsHeader head → header_of (header_bytes head) ≡ head
header_of-header_bytes head fits =
    let whole = header_bytes head in
    let at_signature : Behind whole (nested_bytes head) 0 = record { is = nested-is head } in
    let signature = number_here _ 2 head.signature fits.signature at_signature in
    let at_version = behind_number 2 head.signature at_signature in
    let version = number_here _ 2 head.version fits.version at_version in
    let at_attributes = behind_number 2 head.version at_version in
    let attributes = number_here _ 4 head.attributes fits.attributes at_attributes in
    let at_last_mounted_version = behind_number 4 head.attributes at_attributes in
    let last_mounted_version = number_here _ 4 head.last_mounted_version fits.last_mounted_version at_last_mounted_version in
    let at_journal_info_block = behind_number 4 head.last_mounted_version at_last_mounted_version in
    let journal_info_block = number_here _ 4 head.journal_info_block fits.journal_info_block at_journal_info_block in
    let at_create_date = behind_number 4 head.journal_info_block at_journal_info_block in
    let create_date = number_here _ 4 head.create_date fits.create_date at_create_date in
    let at_modify_date = behind_number 4 head.create_date at_create_date in
    let modify_date = number_here _ 4 head.modify_date fits.modify_date at_modify_date in
    let at_backup_date = behind_number 4 head.modify_date at_modify_date in
    let backup_date = number_here _ 4 head.backup_date fits.backup_date at_backup_date in
    let at_checked_date = behind_number 4 head.backup_date at_backup_date in
    let checked_date = number_here _ 4 head.checked_date fits.checked_date at_checked_date in
    let at_file_count = behind_number 4 head.checked_date at_checked_date in
    let file_count = number_here _ 4 head.file_count fits.file_count at_file_count in
    let at_folder_count = behind_number 4 head.file_count at_file_count in
    let folder_count = number_here _ 4 head.folder_count fits.folder_count at_folder_count in
    let at_block_size = behind_number 4 head.folder_count at_folder_count in
    let block_size = number_here _ 4 head.block_size fits.block_size at_block_size in
    let at_total_blocks = behind_number 4 head.block_size at_block_size in
    let total_blocks = number_here _ 4 head.total_blocks fits.total_blocks at_total_blocks in
    let at_free_blocks = behind_number 4 head.total_blocks at_total_blocks in
    let free_blocks = number_here _ 4 head.free_blocks fits.free_blocks at_free_blocks in
    let at_next_allocation = behind_number 4 head.free_blocks at_free_blocks in
    let next_allocation = number_here _ 4 head.next_allocation fits.next_allocation at_next_allocation in
    let at_rsrc_clump_size = behind_number 4 head.next_allocation at_next_allocation in
    let rsrc_clump_size = number_here _ 4 head.rsrc_clump_size fits.rsrc_clump_size at_rsrc_clump_size in
    let at_data_clump_size = behind_number 4 head.rsrc_clump_size at_rsrc_clump_size in
    let data_clump_size = number_here _ 4 head.data_clump_size fits.data_clump_size at_data_clump_size in
    let at_next_catalog_id = behind_number 4 head.data_clump_size at_data_clump_size in
    let next_catalog_id = number_here _ 4 head.next_catalog_id fits.next_catalog_id at_next_catalog_id in
    let at_write_count = behind_number 4 head.next_catalog_id at_next_catalog_id in
    let write_count = number_here _ 4 head.write_count fits.write_count at_write_count in
    let at_encodings_bitmap = behind_number 4 head.write_count at_write_count in
    let encodings_bitmap = number_here _ 8 head.encodings_bitmap fits.encodings_bitmap at_encodings_bitmap in
    let at_finder_info = behind_number 8 head.encodings_bitmap at_encodings_bitmap in
    let finder_info = part_here _ head.finder_info 32 fits.finder_length at_finder_info in
    let at_allocation_fork = behind_part head.finder_info 32 fits.finder_length at_finder_info in
    let allocation_fork = fork_here whole _ _ head.allocation_fork fits.allocation_fork at_allocation_fork in
    let at_extents_fork = behind_part (fork_bytes head.allocation_fork) 80 (length-fork_bytes head.allocation_fork (length-extents_bytes head.allocation_fork.extents fits.allocation_fork.extents.eight)) at_allocation_fork in
    let extents_fork = fork_here whole _ _ head.extents_fork fits.extents_fork at_extents_fork in
    let at_catalog_fork = behind_part (fork_bytes head.extents_fork) 80 (length-fork_bytes head.extents_fork (length-extents_bytes head.extents_fork.extents fits.extents_fork.extents.eight)) at_extents_fork in
    let catalog_fork = fork_here whole _ _ head.catalog_fork fits.catalog_fork at_catalog_fork in
    let at_attributes_fork = behind_part (fork_bytes head.catalog_fork) 80 (length-fork_bytes head.catalog_fork (length-extents_bytes head.catalog_fork.extents fits.catalog_fork.extents.eight)) at_catalog_fork in
    let attributes_fork = fork_here whole _ _ head.attributes_fork fits.attributes_fork at_attributes_fork in
    let at_startup_fork = behind_part (fork_bytes head.attributes_fork) 80 (length-fork_bytes head.attributes_fork (length-extents_bytes head.attributes_fork.extents fits.attributes_fork.extents.eight)) at_attributes_fork in
    let startup_fork = fork_here whole _ _ head.startup_fork fits.startup_fork at_startup_fork in
    rw (signature, version, attributes, last_mounted_version, journal_info_block, create_date, modify_date, backup_date, checked_date, file_count, folder_count, block_size, total_blocks, free_blocks, next_allocation, rsrc_clump_size, data_clump_size, next_catalog_id, write_count, encodings_bitmap, finder_info, allocation_fork, extents_fork, catalog_fork, attributes_fork, startup_fork) refl
