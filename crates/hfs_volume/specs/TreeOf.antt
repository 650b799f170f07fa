-- The plain tree of a volume's content.
use Rattle.std.specs.Prelude.{ℕ, zero, suc, ◌*◌, ◌/◌, ◌%◌, ◌==◌, ◌&&◌, ◌||◌, Bool, true, false, not, List, [], ◌∷◌, length, map, take, find, Option, Some, None, is_some, if◌then◌else◌}
use Rattle.std.specs.List.{flat_map, list_any}
use Rattle.jnl_format.specs.Recovery.{Content}
use Rattle.cat_records.specs.declared.record.EntryFields.{EntryFields}
use Rattle.cat_records.specs.declared.record.FileRecord.{FileRecord}
use Rattle.cat_records.specs.declared.record.CatRecord.{CatRecord}
use Rattle.cat_records.specs.declared.record.CatRecord.TheVariants.{Folder, File, Thread}
use Rattle.hfs_model.specs.Sorted.{kept}
use Rattle.hfs_model.specs.Step.{is_private_name}
use Rattle.hfs_volume.specs.Records.{Placed, Attribute, entries_of, is_empty, is_folder, is_link, id_of, special_of, entry_of, inline_bytes}
use Rattle.hx_bytes.specs.declared.extents.ForkRecord.{ForkRecord}
use Rattle.hfs_volume.specs.Forks.{extents_of, data_kind, resource_kind}
use Rattle.hfs_volume.specs.Values.{value_extents}
use Rattle.hx_bytes.specs.declared.extents.Extent.{Extent}
use Rattle.cat_records.specs.declared.attribute.AttrRecord.{AttrRecord}
use Rattle.cat_records.specs.declared.attribute.AttrRecord.TheVariants as attribute
use Rattle.hfs_volume.specs.Links.{private_id, is_shared_file}
use Rattle.hfs_volume.specs.Content.{VolumeState, volume_of, records_of, overflow_in_volume, attributes_of, fork_bytes}
use Rattle.hfs_model.specs.declared.plain.PlainAttribute.{PlainAttribute}
use Rattle.hfs_model.specs.declared.plain.PlainEntry.{PlainEntry}
use Rattle.hfs_model.specs.declared.plain.PlainNode.{PlainNode}
use Rattle.hfs_model.specs.declared.plain.PlainTree.{PlainTree}

-- ---- the folders above, computed

-- whether a record is that of the folder with this CNID
abbrev pub is_folder_of : ℕ → Placed → Bool
is_folder_of id placed = is_folder placed.value && (id_of placed == id)

-- the folder in which a record stands, 0 where there is none
abbrev pub parent_in : Option Placed → ℕ
parent_in None = 0
parent_in (Some placed) = placed.parent

-- the parent of the folder with this CNID, or 0 where there is none
abbrev pub parent_of : List Placed → ℕ → ℕ
parent_of entries id = parent_in (find (is_folder_of id) entries)

-- a folder of this CNID is reached from here by going up so many times, or fewer
abbrev pub is_above : List Placed → ℕ → ℕ → ℕ → Bool
is_above entries top zero id = id == top
is_above entries top (suc more) id = (id == top) || is_above entries top more (parent_of entries id)

-- ---- what is seen

-- the folder is this one, or lies below it; no way up is longer than the list of entries
abbrev pub is_under : Option ℕ → List Placed → ℕ → Bool
is_under None entries folder = false
is_under (Some id) entries folder = is_above entries id (length entries) folder

-- the folder is the private one, or lies below it
abbrev pub is_hidden : List Placed → ℕ → Bool
is_hidden records folder = is_under (private_id records) (entries_of records) folder

-- an entry that users see: not the root, which has no folder, not one of the volume's own, and nothing in the private folder
unfoldable pub is_seen : List Placed → Placed → Bool
is_seen records placed =
    not (is_empty placed.name) && not (placed.parent == 1) && not (is_hidden records placed.parent) && not ((placed.parent == 2) && is_private_name placed.name)

-- the file with several names that has this number
abbrev pub shared_file : List Placed → ℕ → Option Placed
shared_file records reference = find (is_shared_file records reference) (entries_of records)

-- the CNID in a record, 0 where there is none
abbrev pub id_or_0 : Option Placed → ℕ
id_or_0 None = 0
id_or_0 (Some placed) = id_of placed

-- the CNID of what an entry names: that of the file that a link names, and else its own
abbrev pub named_id : List Placed → Placed → ℕ
named_id records placed = if is_link placed then id_or_0 (shared_file records (special_of placed)) else id_of placed

-- a record as users see its entry; a link names the file to which it leads
abbrev pub plain_entry : List Placed → Placed → PlainEntry
plain_entry records placed = record { parent = placed.parent; name = placed.name; folder = is_folder placed.value; id = named_id records placed }

-- ---- the bytes

-- The bytes of a file's two forks.
pub record ForkBytes : Type 0 where
  pub data_bytes : List ℕ
  pub resource_bytes : List ℕ

-- no byte in either
abbrev pub empty_forks : ForkBytes
empty_forks = record { data_bytes = []; resource_bytes = [] }

-- What a content has in the blocks of files and of values.
pub record BytesOf : Type 0 where
  -- of a file, by its record
  pub file : FileRecord → ForkBytes
  -- of a value of so many bytes in these extents
  pub value : ℕ → List Extent → List ℕ

-- an attribute with its value in its record, wherever it is kept; further records give none
abbrev pub with_value : BytesOf → List Attribute → Attribute → AttrRecord → List Attribute
with_value bytes_of attributes record_ (attribute.Inline value) = record_ ∷ []
with_value bytes_of attributes record_ (attribute.Fork fork) = record record_ { value = attribute.Inline (bytes_of.value fork.logical_size (value_extents attributes record_.id record_.name)) } ∷ []
with_value bytes_of attributes record_ (attribute.More extents) = []

-- all attributes, each with its value in its record
unfoldable pub valued : BytesOf → List Attribute → List Attribute
valued bytes_of attributes = flat_map (λ record_. with_value bytes_of attributes record_ record_.value) attributes

-- ---- entries

-- the entry of a record, where users see one
abbrev pub seen_entry : List Placed → Placed → List PlainEntry
seen_entry records placed = if is_seen records placed then plain_entry records placed ∷ [] else []

-- ---- folders and files

-- an attribute as users see it
abbrev pub plain_attribute : Attribute → PlainAttribute
plain_attribute attribute = record { name = attribute.name; value = inline_bytes attribute.value }

-- the attributes of a folder or file, in the order of their names
abbrev pub plain_attributes : List Attribute → ℕ → List PlainAttribute
plain_attributes attributes id = map plain_attribute (kept (λ attribute. attribute.id == id) attributes)

-- the bits of a whole mode that say what it is
abbrev pub type_bits_in : ℕ → ℕ
type_bits_in mode = mode / 4096 * 4096

-- a folder or file as users see it
abbrev pub plain_node : List Attribute → EntryFields → Bool → ForkBytes → Bool → PlainNode
plain_node attributes fields folder bytes linked = record {
  id = fields.id;
  folder = folder;
  type_bits = type_bits_in fields.mode;
  mode = fields.mode % 4096;
  created = fields.created;
  changed = fields.changed;
  attribute = fields.attribute;
  attributes = plain_attributes attributes fields.id;
  bytes = bytes.data_bytes;
  resource = bytes.resource_bytes;
  linked = linked;
}

-- the file lies in the private folder, and some name is a link to it
abbrev pub is_linked : List Placed → Placed → Bool
is_linked records placed = list_any (λ link. is_link link && is_shared_file records (special_of link) placed) (entries_of records)

-- a folder that users see, or the root
abbrev pub is_plain_folder : List Placed → Placed → Bool
is_plain_folder records placed = (id_of placed == 2) || is_seen records placed

-- a file that has a name: its own, or links
abbrev pub is_plain_file : List Placed → Placed → Bool
is_plain_file records placed = (is_seen records placed && not (is_link placed)) || is_linked records placed

-- the folder or file of an entry, where it has a name; the bytes of files are these
abbrev pub node_in : List Attribute → List Placed → BytesOf → Placed → CatRecord → List PlainNode
node_in attributes records bytes_of placed (Folder folder) = if is_plain_folder records placed then plain_node attributes folder.fields true empty_forks false ∷ [] else []
node_in attributes records bytes_of placed (File file) = if is_plain_file records placed then plain_node attributes file.fields false (bytes_of.file file) (is_linked records placed) ∷ [] else []
node_in attributes records bytes_of placed (Thread thread) = []

-- the folder or file of a record, if there is one
abbrev pub node_found : List Attribute → List Placed → BytesOf → Option Placed → List PlainNode
node_found attributes records bytes_of None = []
node_found attributes records bytes_of (Some entry) = node_in attributes records bytes_of entry entry.value

-- the folder or file of the CNID under which a record without a name, a thread, stands; threads stand in the order of CNIDs
abbrev pub threaded_node : List Attribute → List Placed → BytesOf → Placed → List PlainNode
threaded_node attributes records bytes_of placed = if is_empty placed.name then node_found attributes records bytes_of (entry_of records placed.parent) else []

-- ---- the tree

-- The plain tree that the lists of a sound volume tell. Entries stand in the order of the catalog's keys, and folders and files in that of
-- their threads'.
unfoldable pub tree_in : VolumeState → BytesOf → PlainTree
tree_in volume bytes_of =
    let records = records_of volume in
    record {
      entries = flat_map (seen_entry records) records;
      nodes = flat_map (threaded_node (valued bytes_of (attributes_of volume)) records bytes_of) records;
      next_id = volume.head.next_catalog_id;
      has_private = is_some (private_id records);
      moment = volume.head.modify_date;
    }

-- the bytes of a fork of the file with this CNID: the first of its blocks
unfoldable pub bytes_in_fork : Content → ℕ → ℕ → ForkRecord → List ℕ
bytes_in_fork content id kind fork = take fork.logical_size (fork_bytes content (extents_of (overflow_in_volume (volume_of content)) id kind fork))

-- the bytes of a file: those of its data fork, and those of its resource fork
abbrev pub file_bytes : Content → FileRecord → ForkBytes
file_bytes content file = record { data_bytes = bytes_in_fork content file.fields.id data_kind file.data_fork; resource_bytes = bytes_in_fork content file.fields.id resource_kind file.resource_fork }

-- the bytes of a content: those of its files, and those of its values, which are the first of their blocks
abbrev pub bytes_in : Content → BytesOf
bytes_in content = record { file = file_bytes content; value = λ size extents. take size (fork_bytes content extents) }

-- The plain tree of a sound content.
unfoldable pub tree_of : Content → PlainTree
tree_of content = tree_in (volume_of content) (bytes_in content)
