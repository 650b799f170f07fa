-- Records of a catalog that are found by their names.
use Rattle.std.specs.Prelude.{◌≡◌, ℕ, true, List, [], ◌∷◌, Option, Some, None, Contains, slice_index_or}
use Rattle.btree_node.specs.Levels.{Pair}
use Rattle.cat_records.specs.declared.record.CatRecord.{CatRecord}
use Rattle.cat_records.specs.declared.record.CatRecord.TheVariants.{Folder, File, Thread}
use Rattle.hfs_volume.specs.Records.{Placed, id_in, id_of, special_of}
use Rattle.hfs_volume.specs.Links.{is_shared}
use Rattle.fsck_core.specs.declared.shared.SharedFile.{SharedFile}

-- a pair of a list, by its place; past its end it doesn't matter
abbrev pub pair_at : List Pair → ℕ → Pair
pair_at pairs k = slice_index_or pairs k ([], [])

-- the value of a record that was found
abbrev pub value_found : Option Placed → Option CatRecord
value_found None = None
value_found (Some placed) = Some placed.value

-- its CNID, and that of the root where none was found
abbrev pub id_found : Option CatRecord → ℕ
id_found None = 2
id_found (Some value) = id_in value

-- a file with several names in a record, under a number
abbrev pub shared_found : ℕ → CatRecord → Option SharedFile
shared_found reference (Folder folder) = None
shared_found reference (File file) = Some (record { reference = reference; id = file.fields.id; links = file.fields.special })
shared_found reference (Thread thread) = None

-- the file, if there is one
abbrev pub shared_some : Option SharedFile → List SharedFile
shared_some None = []
shared_some (Some file) = file ∷ []

-- A record of this private folder is a file with several names: it has this number, this CNID, and says so many links.
pub record IsSharedAs (private : Option ℕ) (placed : Placed) (file : SharedFile) : Type 0 where
  pub shared : is_shared private file.reference placed ≡ true
  pub id : file.id ≡ id_of placed
  pub links : file.links ≡ special_of placed

-- These are the files with several names among records.
pub record AreShared (private : Option ℕ) (records : List Placed) (files : List SharedFile) : Type 0 where
  pub sound : (file : SharedFile) → Contains files file → (placed : Placed) × Contains records placed × IsSharedAs private placed file
  pub whole : (placed : Placed) (reference : ℕ) → Contains records placed → is_shared private reference placed ≡ true → (file : SharedFile) × Contains files file × IsSharedAs private placed file
