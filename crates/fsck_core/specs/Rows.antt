-- The entries of a catalog, as the rules on counts and ids look at them.
use Rattle.std.specs.Prelude.{◌==◌, ◌&&◌, ℕ, false, Bool, List, [], ◌∷◌, map, slice_index_or, count_by, if◌then◌else◌}
use Rattle.hfs_volume.specs.Records.{Placed, id_of, valence_in, special_of, is_folder, is_file, is_link}
use Rattle.hfs_volume.specs.Broken.{Want, want, id_wanted}
use Rattle.std.specs.List.{list_all}
use Rattle.hx_bytes.specs.declared.extents.ForkRecord.{ForkRecord}
use Rattle.cat_records.specs.declared.record.CatRecord.{CatRecord}
use Rattle.cat_records.specs.declared.record.CatRecord.TheVariants.{Folder, File, Thread}
use Rattle.fsck_core.specs.declared.rows.Row.{Row}

-- no extent of a fork's record has a block
abbrev pub has_no_block : ForkRecord → Bool
has_no_block fork = list_all (λ extent. extent.count == 0) fork.extents.extents

-- no extent of a file's record has one
abbrev pub is_bare : CatRecord → Bool
is_bare (Folder folder) = false
is_bare (File file) = has_no_block file.data_fork && has_no_block file.resource_fork
is_bare (Thread thread) = false

-- an entry as a row
abbrev pub row_of : Placed → Row
row_of placed = record {
  parent = placed.parent;
  id = id_of placed;
  valence = valence_in placed.value;
  special = special_of placed;
  folder = is_folder placed.value;
  file = is_file placed.value;
  link = is_link placed;
  bare = is_bare placed.value;
}

-- entries as rows
abbrev pub rows_of : List Placed → List Row
rows_of entries = map row_of entries

-- a row of a list, by its place; past its end it doesn't matter
abbrev pub no_row : Row
no_row = record { parent = 0; id = 0; valence = 0; special = 0; folder = false; file = false; link = false; bare = false }

abbrev pub row_at : List Row → ℕ → Row
row_at rows k = slice_index_or rows k no_row

-- how many rows have this parent
abbrev pub rows_under : List Row → ℕ → ℕ
rows_under rows parent = count_by (λ row. row.parent == parent) rows

-- a folder's valence, and how many rows it has
abbrev pub valence_of : List Row → Row → List Want
valence_of rows row = if row.folder then want row.id row.valence (rows_under rows row.id) ∷ [] else []

-- a row's id, and the one that is wanted there
abbrev pub given_id : ℕ → Row → List Want
given_id next row = want row.id row.id (id_wanted next row.id) ∷ []
