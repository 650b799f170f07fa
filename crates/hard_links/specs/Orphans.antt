-- Files that wait in the private folder to be removed.
use Rattle.std.specs.Prelude.{◌≡◌, ℕ, true, List, Option, None, Some, codes}
use Rattle.btree_node.specs.Levels.{Pair}
use Rattle.cat_records.specs.declared.record.FileRecord.{FileRecord}
use Rattle.cat_records.specs.declared.record.CatRecord.{CatRecord}
use Rattle.cat_records.specs.declared.record.CatRecord.TheVariants.{Folder, File, Thread}
use Rattle.hfs_volume.specs.Changes.{MovesEntry}
use Rattle.hfs_volume.specs.Naming.{orphan_name}
use Rattle.hfs_volume.specs.Records.{Placed, placed_in, record_at, is_file, id_of}
use Rattle.hard_links.specs.Numbers.{IsFirstFree}
use Rattle.hard_links.specs.declared.place.EntryAt.{EntryAt}

-- the file in a record that is a file's
abbrev pub file_in : Option CatRecord → Option FileRecord
file_in None = None
file_in (Some (Folder folder)) = None
file_in (Some (File file)) = Some file
file_in (Some (Thread thread)) = None

-- a place has the record of a file
pub record NamesFile (at : EntryAt) (pairs : List Pair) : Type 0 where
  pub entry : Placed
  pub found : record_at (placed_in pairs) at.parent at.name ≡ Some entry
  pub file : is_file entry.value ≡ true

-- the number that the file at a place gets there: the first from its CNID on whose name isn't there
pub record IsOrphanNumber (private : ℕ) (at : EntryAt) (pairs : List Pair) (number : ℕ) : Type 0 where
  pub entry : Placed
  pub found : record_at (placed_in pairs) at.parent at.name ≡ Some entry
  pub first : IsFirstFree pairs private (codes "temp") (id_of entry) number

-- The file that stood at a place stands in the private folder, under the word `temp` and a number: the first from its CNID on whose name
-- wasn't there. Its thread tells that place, and has the reserved word that it had.
pub record MakesOrphan (private : ℕ) (at : EntryAt) (old new : List Pair) : Type 0 where
  pub entry : Placed
  pub found : record_at (placed_in old) at.parent at.name ≡ Some entry
  pub number : ℕ
  pub first : IsFirstFree old private (codes "temp") (id_of entry) number
  pub moves : MovesEntry entry private (orphan_name number) old new
  pub same_spare : moves.back.spare ≡ moves.out.spare
