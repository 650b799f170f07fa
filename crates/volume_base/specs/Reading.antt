-- Which file a path stands for, and what `read` answers.
use Rattle.std.specs.Prelude.{◌≡◌, ℕ, nat_lt, List, take, drop, Option, None, Some, Result, Err, Contains}
use Rattle.std.specs.Option.{option_map}
use Rattle.sector_disk.specs.Lists.{Content}
use Rattle.btree_node.specs.Levels.{Pair}
use Rattle.cat_records.specs.declared.record.CatRecord.{CatRecord}
use Rattle.cat_records.specs.declared.record.CatRecord.TheVariants.{Folder, File, Thread}
use Rattle.cat_records.specs.declared.record.FileRecord.{FileRecord}
use Rattle.hfs_language.specs.declared.refusal.Refusal.{Refusal}
use Rattle.hfs_language.specs.declared.refusal.Refusal.TheVariants as refusal
use Rattle.hfs_model.specs.Step.{most_bytes, then_, unless}
use Rattle.hfs_volume.specs.Records.{Placed, entries_of}
use Rattle.hfs_volume.specs.TreeOf.{file_bytes}
use Rattle.volume_base.specs.Entering.{entry_by_id}
use Rattle.volume_base.specs.Nodes.{node_in}
use Rattle.volume_base.specs.declared.entries.Entry.{Entry}
use Rattle.volume_base.specs.declared.nodes.Node.{Node}
use Rattle.volume_base.specs.declared.nodes.Node.TheVariants as node

-- the file that was found, unless more bytes are asked than one command reads
abbrev pub to_read : ℕ → Node → Result FileRecord Refusal
to_read long (node.Folder folder) = Err refusal.IsFolder
to_read long (node.File file linked) = unless (nat_lt most_bytes long) refusal.TooLarge file

-- the file that a path stands for, or the first reason against it
abbrev pub file_in : List Pair → Option ℕ → List (List ℕ) → ℕ → Result FileRecord Refusal
file_in pairs private path long = then_ (node_in pairs private path) (to_read long)

-- An entry of the records is this file's.
pub record HasFile (records : List Placed) (file : FileRecord) : Type 0 where
  pub entry : Placed
  pub stands : Contains (entries_of records) entry
  pub value : entry.value ≡ File file

-- ---- by its CNID

-- the file of an entry that has one
abbrev pub file_in_record : CatRecord → Option FileRecord
file_in_record (Folder folder) = None
file_in_record (File file) = Some file
file_in_record (Thread thread) = None

abbrev pub file_of : Option Entry → Option FileRecord
file_of None = None
file_of (Some entry) = file_in_record entry.rec

-- so many bytes of the file of the catalog with this CNID, from a place on
abbrev pub bytes_by_id : Content → List Pair → ℕ → ℕ → ℕ → Option (List ℕ)
bytes_by_id content pairs id from long = option_map (λ file. take long (drop from (file_bytes content file).data_bytes)) (file_of (entry_by_id pairs id))
