-- The file that a name stands for.
use Rattle.std.specs.Prelude.{ℕ, List, Option, None, Some, if◌then◌else◌}
use Rattle.btree_node.specs.Levels.{Pair}
use Rattle.cat_records.specs.declared.record.CatRecord.{CatRecord}
use Rattle.cat_records.specs.declared.record.CatRecord.TheVariants.{Folder, File, Thread}
use Rattle.cat_records.specs.declared.record.FileRecord.{FileRecord}
use Rattle.catalog.specs.Pairs.{value_at}
use Rattle.hfs_volume.specs.Links.{node_name}
use Rattle.hfs_volume.specs.Records.{is_link_type}

-- the file in a record that is a file's, and else another
abbrev pub file_or : FileRecord → Option CatRecord → FileRecord
file_or rec None = rec
file_or rec (Some (Folder folder)) = rec
file_or rec (Some (File file)) = file
file_or rec (Some (Thread thread)) = rec

-- the file that a record of a name stands for: of a link the one in the private folder under the link's number, and else the record itself
abbrev pub identity_of : List Pair → ℕ → FileRecord → FileRecord
identity_of pairs private rec = if is_link_type rec.fields then file_or rec (value_at pairs private (node_name rec.fields.special)) else rec
