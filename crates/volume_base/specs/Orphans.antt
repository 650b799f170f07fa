-- Files that lost their last name and wait in the private folder: how a step of housekeeping finds the first of them, and what it does to it.
use Rattle.std.specs.Prelude.{◌≡◌, ◌<◌, ◌==◌, ◌&&◌, ℕ, ◌-◌, Bool, false, List, [], length, slice_index_or}
use Rattle.cat_records.specs.declared.record.CatRecord.{CatRecord}
use Rattle.cat_records.specs.declared.record.CatRecord.TheVariants.{Folder, File, Thread}
use Rattle.volume_header.specs.declared.header.VolumeHeader.{VolumeHeader}
use Rattle.hfs_volume.specs.Commands.{with_counts}

-- a file that has no blocks
abbrev pub is_blockless : CatRecord → Bool
is_blockless (Folder folder) = false
is_blockless (File file) = (file.data_fork.total_blocks == 0) && (file.resource_fork.total_blocks == 0)
is_blockless (Thread thread) = false

-- the header after a file was removed
abbrev pub with_file_removed : VolumeHeader → VolumeHeader
with_file_removed head = with_counts head.next_catalog_id (head.file_count - 1) head.folder_count head

-- ---- the attribute that goes
-- the name is the first of these
abbrev pub IsFirstName : List ℕ → List (List ℕ) → Type 0
IsFirstName name names = (0 < length names) × (name ≡ slice_index_or names 0 [])
