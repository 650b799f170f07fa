-- The records of a volume's three trees, decoded, and what each of them is.
use Rattle.std.specs.Prelude.{ℕ, ◌==◌, ◌&&◌, Bool, true, false, not, List, [], ◌∷◌, ◌++◌, length, drop, map, find, decimal, Option, if◌then◌else◌}
use Rattle.std.specs.Str.{bytes_eq}
use Rattle.std.specs.Ordering.{is_lt, nat_cmp, ordering_then}
use Rattle.std.specs.Cmp.Lexicographic.{slice_cmp}
use Rattle.std.specs.Str.Parse.{digits_value}
use Rattle.hx_bytes.specs.Field.{big_at}
use Rattle.hx_bytes.specs.Fork.{extents_at}
use Rattle.hx_bytes.specs.declared.extents.Extent.{Extent}
use Rattle.btree_node.specs.Levels.{Pair}
use Rattle.btree_node.specs.Keys.{catalog_parent, catalog_units, extent_fork, extent_file, extent_start, attr_file, attr_start, attr_units}
use Rattle.cat_records.specs.declared.record.EntryFields.{EntryFields}
use Rattle.cat_records.specs.declared.record.CatRecord.{CatRecord}
use Rattle.cat_records.specs.declared.record.CatRecord.TheVariants.{Folder, File, Thread}
use Rattle.cat_records.specs.declared.attribute.AttrRecord.{AttrRecord}
use Rattle.cat_records.specs.declared.attribute.AttrRecord.TheVariants as attribute
use Rattle.cat_records.specs.Records.{catalog_of}
use Rattle.cat_records.specs.Attributes.{attr_of, is_attr}
use Rattle.hfs_model.specs.Sorted.{kept}

-- ---- the catalog

-- a record of the catalog behind its key
pub record Placed : Type 0 where
  pub parent : ℕ
  pub name : List ℕ
  pub value : CatRecord

-- a record of the catalog with the folder and the name of its key
unfoldable pub placed_of : Pair → Placed
placed_of pair = record { parent = catalog_parent pair.0; name = catalog_units pair.0; value = catalog_of pair.1 }

-- the records of the catalog, in the order of their keys
abbrev pub placed_in : List Pair → List Placed
placed_in pairs = map placed_of pairs

-- keys are in this order: by the parent's number, then by the name's units; a name that begins another comes before it
abbrev pub placed_before : Placed → Placed → Bool
placed_before one other = is_lt (ordering_then (nat_cmp one.parent other.parent) (slice_cmp nat_cmp one.name other.name))

-- whether a name has no unit
abbrev pub is_empty : List ℕ → Bool
is_empty [] = true
is_empty (unit ∷ units) = false

-- whether a record is a folder's
abbrev pub is_folder : CatRecord → Bool
is_folder (Folder folder) = true
is_folder (File file) = false
is_folder (Thread thread) = false

-- whether a record is a file's
abbrev pub is_file : CatRecord → Bool
is_file (Folder folder) = false
is_file (File file) = true
is_file (Thread thread) = false

-- whether a record is a thread: it says where a folder or file with a CNID stands
abbrev pub is_thread : CatRecord → Bool
is_thread (Folder folder) = false
is_thread (File file) = false
is_thread (Thread thread) = true

-- the CNID of a folder or file
abbrev pub id_in : CatRecord → ℕ
id_in (Folder folder) = folder.fields.id
id_in (File file) = file.fields.id
id_in (Thread thread) = 0

-- the CNID in a record
abbrev pub id_of : Placed → ℕ
id_of placed = id_in placed.value

-- the number of a folder's entries, as it is stored
abbrev pub valence_in : CatRecord → ℕ
valence_in (Folder folder) = folder.fields.count
valence_in (File file) = 0
valence_in (Thread thread) = 0

-- the entries: the records with a name
abbrev pub entries_of : List Placed → List Placed
entries_of records = kept (λ placed. not (is_empty placed.name)) records

-- whether a record has this name in this folder
abbrev pub is_placed_at : ℕ → List ℕ → Placed → Bool
is_placed_at parent name placed = (placed.parent == parent) && bytes_eq placed.name name

-- the record with this key
abbrev pub record_at : List Placed → ℕ → List ℕ → Option Placed
record_at records parent name = find (is_placed_at parent name) records

-- the folder or file with this CNID
abbrev pub entry_of : List Placed → ℕ → Option Placed
entry_of records id = find (λ placed. id_of placed == id) (entries_of records)

-- ---- links

-- `hlnk` and `hfs+`
abbrev pub is_link_type : EntryFields → Bool
is_link_type fields = (big_at 4 fields.finder 0 == 0x686C6E6B) && (big_at 4 fields.finder 4 == 0x6866732B)

-- a further name of a file: a file record of its own, of the type for such names
abbrev pub is_link : Placed → Bool
is_link placed = is_link_in placed.value
  where
    is_link_in : CatRecord → Bool
    is_link_in (Folder folder) = false
    is_link_in (File file) = is_link_type file.fields
    is_link_in (Thread thread) = false

-- the number of a link's file; of that file itself, the number of its links
abbrev pub special_of : Placed → ℕ
special_of placed = special_in placed.value
  where
    special_in : CatRecord → ℕ
    special_in (Folder folder) = folder.fields.special
    special_in (File file) = file.fields.special
    special_in (Thread thread) = 0

-- a word, and a number in decimal digits
abbrev pub numbered : List ℕ → ℕ → List ℕ
numbered word number = word ++ decimal number

-- a name is a word and some number's decimal digits
abbrev pub is_numbered : List ℕ → List ℕ → Bool
is_numbered word name = bytes_eq name (numbered word (digits_value 10 (drop (length word) name)))

-- ---- the extents overflow file

-- further extents of a fork, from a place of it on
pub record Overflow : Type 0 where
  -- 0 is a data fork, 255 a resource fork
  pub fork : ℕ
  pub id : ℕ
  pub start : ℕ
  pub extents : List Extent

-- the overflow record that a key and a value of the extents file spell
unfoldable pub overflow_of : Pair → Overflow
overflow_of pair = record { fork = extent_fork pair.0; id = extent_file pair.0; start = extent_start pair.0; extents = (extents_at pair.1 0).extents }

-- ---- the attributes file

-- A record of the attributes file with what its key says.
pub record Attribute : Type 0 where
  pub id : ℕ
  pub name : List ℕ
  pub start : ℕ
  pub value : AttrRecord

-- the record that bytes spell; those that spell none have no extents, and are no attribute
abbrev pub spelled_value : List ℕ → AttrRecord
spelled_value bytes = if is_attr bytes then attr_of bytes else attribute.Inline []

-- a record of the attributes file, read from its pair
unfoldable pub attribute_of : Pair → Attribute
attribute_of pair = record { id = attr_file pair.0; name = attr_units pair.0; start = attr_start pair.0; value = spelled_value pair.1 }

-- whether an attribute's value stands in its record
abbrev pub is_inline : AttrRecord → Bool
is_inline (attribute.Inline value) = true
is_inline (attribute.Fork fork) = false
is_inline (attribute.More extents) = false

-- the bytes of a value that stands in its record
abbrev pub inline_bytes : AttrRecord → List ℕ
inline_bytes (attribute.Inline value) = value
inline_bytes (attribute.Fork fork) = []
inline_bytes (attribute.More extents) = []
