-- What stands under a name, what `readlink` answers, and the file of a path by its record.
use Rattle.std.specs.Prelude.{◌≡◌, ℕ, ◌==◌, Bool, List, Option, Some, None, Result, Ok, Err, take, true, if◌then◌else◌}
use Rattle.btree_node.specs.Levels.{Pair}
use Rattle.cat_records.specs.declared.record.FileRecord.{FileRecord}
use Rattle.catalog.specs.Pairs.{value_at}
use Rattle.hfs_language.specs.declared.refusal.Refusal.{Refusal}
use Rattle.hfs_language.specs.declared.refusal.Refusal.TheVariants as refusal
use Rattle.hfs_model.specs.Extras.{is_link}
use Rattle.hfs_model.specs.Kinds.{target_told}
use Rattle.hfs_model.specs.Plain.{link_bits, node_at}
use Rattle.hfs_model.specs.Step.{is_private_path, then_, to_file}
use Rattle.hfs_model.specs.declared.kinds.Sight.{Sight}
use Rattle.hfs_model.specs.declared.kinds.Sight.TheVariants as sight
use Rattle.hfs_model.specs.declared.plain.PlainNode.{PlainNode}
use Rattle.hfs_model.specs.declared.plain.PlainTree.{PlainTree}
use Rattle.hfs_volume.specs.Content.{records_of, volume_of}
use Rattle.hfs_volume.specs.Records.{Placed}
use Rattle.hfs_volume.specs.TreeOf.{file_bytes, type_bits_in}
use Rattle.jnl_format.specs.Recovery.{Content}
use Rattle.volume_base.specs.Nodes.{node_reached}
use Rattle.volume_base.specs.Reaching.{named}
use Rattle.volume_base.specs.Reading.{HasFile}
use Rattle.volume_base.specs.declared.nodes.Node.{Node}
use Rattle.volume_base.specs.declared.nodes.Node.TheVariants as node
use Rattle.volume_base.specs.declared.sighting.LinkRead.{LinkRead}
use Rattle.volume_base.specs.declared.sighting.LinkRead.TheVariants as link

-- a whole mode is that of a symbolic link
abbrev pub is_link_mode : ℕ → Bool
is_link_mode mode = type_bits_in mode == link_bits

-- ---- what stands under a name

-- what a record of a folder is found under, by the pairs of the catalog's tree
abbrev pub node_under : List Pair → Option ℕ → ℕ → List ℕ → Result Node Refusal
node_under pairs private parent name = then_ (named (value_at pairs parent name)) (node_reached pairs private)

-- what a folder or file is seen as, by its record: of a link the first 1,024 bytes
abbrev pub sight_of : Content → Node → Sight
sight_of content (node.Folder folder) = sight.Folder folder.fields.id
sight_of content (node.File file linked) = if is_link_mode file.fields.mode then sight.Link (take 1024 (file_bytes content file).data_bytes) else sight.File

-- the records have the file that was found
abbrev pub HasFileOf : List Placed → Node → Type 0
HasFileOf records (node.Folder folder) = Unit {0}
HasFileOf records (node.File file linked) = HasFile records file

-- the tree has a folder with this CNID
abbrev pub HasFolder : PlainTree → ℕ → Type 0
HasFolder tree id = (folder : PlainNode) × (node_at tree id ≡ Some folder) × (folder.folder ≡ true)

-- ---- a file by its record

-- A file's record is that of this file of the tree.
pub record IsFileAs (content : Content) (file : FileRecord) (node : PlainNode) : Type 0 where
  pub has : HasFile (records_of (volume_of content)) file
  pub id : node.id ≡ file.fields.id
  pub type_bits : node.type_bits ≡ type_bits_in file.fields.mode
  pub bytes : node.bytes ≡ (file_bytes content file).data_bytes
  pub resource : node.resource ≡ (file_bytes content file).resource_bytes

-- what was found is the file of the tree, or it isn't found for the same reason
abbrev pub IsFoundAs : Content → Result FileRecord Refusal → Result PlainNode Refusal → Type 0
IsFoundAs content (Ok file) (Ok node) = IsFileAs content file node
IsFoundAs content (Ok file) (Err why) = ⊥
IsFoundAs content (Err why) (Ok node) = ⊥
IsFoundAs content (Err why) (Err other) = why ≡ other

-- ---- what `readlink` answers

abbrev pub file_told : Result PlainNode Refusal → LinkRead
file_told (Ok file) = if is_link file then link.Target (target_told file) else link.NotLink
file_told (Err why) = link.No why

-- what a path tells of a symbolic link on this tree; the volume's own names count as absent
abbrev pub link_told : PlainTree → List (List ℕ) → LinkRead
link_told tree path = if is_private_path path then link.No refusal.NotFound else file_told (to_file tree path)
