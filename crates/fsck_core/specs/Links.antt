-- The links of a volume, as they are judged one after the other.
use Rattle.std.specs.Prelude.{◌≡◌, ◌⊎◌, ◌<◌, ◌==◌, ◌&&◌, not, ℕ, Bool, true, List, [], ◌∷◌, length, count_by, Option, Some, None, if◌then◌else◌}
use Rattle.std.specs.List.{flat_map}
use Rattle.alloc_bitmap.specs.Apart.{times}
use Rattle.cat_records.specs.declared.record.CatRecord.{CatRecord}
use Rattle.cat_records.specs.declared.record.CatRecord.TheVariants.{Folder, File, Thread}
use Rattle.hfs_volume.specs.Records.{entries_of, is_folder}
use Rattle.hfs_volume.specs.Broken.{Finding, Want, want, IsUnmet, IsFailed, link_wants, FailsLink}
use Rattle.hfs_volume.specs.Content.{VolumeState, records_of}
use Rattle.fsck_core.specs.Rows.{row_at}
use Rattle.fsck_core.specs.Parents.{marked, IsBelow}
use Rattle.fsck_core.specs.declared.rows.Row.{Row}
use Rattle.fsck_core.specs.declared.shared.SharedFile.{SharedFile}

-- the CNID of a folder that was found
abbrev pub folder_found : Option CatRecord → Option ℕ
folder_found None = None
folder_found (Some (Folder folder)) = Some folder.fields.id
folder_found (Some (File file)) = None
folder_found (Some (Thread thread)) = None

-- what was found is a folder, if something was
abbrev pub is_private : Option CatRecord → Bool
is_private None = true
is_private (Some value) = is_folder value

-- a row is a link to this number
abbrev pub links_here : ℕ → Row → Bool
links_here number row = row.link && (row.special == number)

-- how many rows are
abbrev pub link_count : List Row → ℕ → ℕ
link_count rows number = count_by (links_here number) rows

-- how many links a file says that it has, and how many it has
abbrev pub link_want : List ℕ → SharedFile → List Want
link_want links file = want file.id file.links (times file.reference links) ∷ []

-- The rows that are marked are those whose parents lead to the private folder.
pub record Hides (private : Option ℕ) (rows : List Row) (marks : List Bool) : Type 0 where
  pub sound : (k : ℕ) → k < length rows → marked marks k ≡ true → (id : ℕ) × (private ≡ Some id) × IsBelow id rows (row_at rows k).parent
  pub whole : (k id : ℕ) → k < length rows → private ≡ Some id → IsBelow id rows (row_at rows k).parent → marked marks k ≡ true

-- a row is no link, or one that isn't hidden, has no block, and names some file with several names
abbrev pub is_fine : Row → Bool → ℕ → Bool
is_fine row hidden many = if row.link then (not hidden && (row.bare && not (many == 0))) else true

-- that of a list is
abbrev pub fine_at : List Row → List Bool → List ℕ → ℕ → Bool
fine_at rows hidden shared k = is_fine (row_at rows k) (marked hidden k) (times (row_at rows k).special shared)

-- rule 19 is broken
abbrev pub IsBrokenName : VolumeState → Finding → Type 0
IsBrokenName volume finding = IsUnmet 19 finding (flat_map (link_wants (records_of volume)) (entries_of (records_of volume))) ⊎ IsFailed 19 finding (FailsLink volume)
