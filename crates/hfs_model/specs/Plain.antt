-- The plain tree: a volume as its users see it. Names stand in folders, and each name is that of a folder or a file, by its id.
use Rattle.std.specs.Prelude.{◌≡◌, ◌<◌, ◌⊎◌, ℕ, ◌==◌, ◌&&◌, nat_lt, Bool, true, false, not, List, [], ◌∷◌, map, count_by, find, Contains, Option, Some, if◌then◌else◌}
use Rattle.std.specs.Str.{bytes_eq}
use Rattle.std.specs.Ordering.{is_lt, nat_cmp, ordering_then}
use Rattle.std.specs.Cmp.Lexicographic.{slice_cmp}
use Rattle.hfs_model.specs.Sorted.{kept, put_before, with_item, IsInOrder}
use Rattle.hfs_model.specs.declared.plain.PlainAttribute.{PlainAttribute}
use Rattle.hfs_model.specs.declared.plain.PlainEntry.{PlainEntry}
use Rattle.hfs_model.specs.declared.plain.PlainNode.{PlainNode}
use Rattle.hfs_model.specs.declared.plain.PlainTree.{PlainTree}

-- ---- the map of names

-- whether an entry has this name in this folder
abbrev pub is_at : ℕ → List ℕ → PlainEntry → Bool
is_at parent name entry = (entry.parent == parent) && bytes_eq entry.name name

-- by the parent's id, then by the name's units; a name that begins another comes before it
abbrev pub entry_before : PlainEntry → PlainEntry → Bool
entry_before one other = is_lt (ordering_then (nat_cmp one.parent other.parent) (slice_cmp nat_cmp one.name other.name))

-- the entry of this name in this folder
abbrev pub entry_at : PlainTree → ℕ → List ℕ → Option PlainEntry
entry_at tree parent name = find (is_at parent name) tree.entries

-- the entries of a folder, in the order of their names
abbrev pub entries_in : PlainTree → ℕ → List PlainEntry
entries_in tree parent = kept (λ entry. entry.parent == parent) tree.entries

-- how many names a folder or file has
abbrev pub names_of : PlainTree → ℕ → ℕ
names_of tree id = count_by (λ entry. entry.id == id) tree.entries

-- the tree with one entry more, at its place in the order
abbrev pub with_entry : PlainEntry → PlainTree → PlainTree
with_entry entry tree = record tree { entries = put_before entry_before entry tree.entries }

-- the tree without the entry of this name in this folder
abbrev pub without_entry : ℕ → List ℕ → PlainTree → PlainTree
without_entry parent name tree = record tree { entries = kept (λ entry. not (is_at parent name entry)) tree.entries }

-- ---- folders and files

-- whether a folder or file has this CNID
abbrev pub is_node : ℕ → PlainNode → Bool
is_node id node = node.id == id

-- the folder or file with this CNID
abbrev pub node_at : PlainTree → ℕ → Option PlainNode
node_at tree id = find (is_node id) tree.nodes

-- whether one folder or file stands before another: the lower CNID first
abbrev pub node_before : PlainNode → PlainNode → Bool
node_before one other = nat_lt one.id other.id

-- the tree with one folder or file more
abbrev pub with_node : PlainNode → PlainTree → PlainTree
with_node node tree = record tree { nodes = put_before node_before node tree.nodes }

-- the tree without the folder or file with this CNID
abbrev pub without_node : ℕ → PlainTree → PlainTree
without_node id tree = record tree { nodes = kept (λ node. not (is_node id node)) tree.nodes }

-- the tree with a folder or file changed so
abbrev pub with_changed : ℕ → (PlainNode → PlainNode) → PlainTree → PlainTree
with_changed id change tree = record tree { nodes = map (λ node. if is_node id node then change node else node) tree.nodes }

-- ---- attributes

-- whether an attribute has this name
abbrev pub is_named : List ℕ → PlainAttribute → Bool
is_named name attribute = bytes_eq attribute.name name

-- whether one attribute stands before another, by their names' units
abbrev pub attribute_before : PlainAttribute → PlainAttribute → Bool
attribute_before one other = is_lt (slice_cmp nat_cmp one.name other.name)

-- the attribute of this name
abbrev pub attribute_at : PlainNode → List ℕ → Option PlainAttribute
attribute_at node name = find (is_named name) node.attributes

-- a folder or file whose attribute of this name has this value, whether it had one or not
abbrev pub with_attribute : List ℕ → List ℕ → PlainNode → PlainNode
with_attribute name value node = record node { attributes = with_item (is_named name) attribute_before (record { name = name; value = value }) node.attributes }

-- a folder or file without the attribute of this name
abbrev pub without_attribute : List ℕ → PlainNode → PlainNode
without_attribute name node = record node { attributes = kept (λ attribute. not (is_named name attribute)) node.attributes }

-- ---- types

-- the type bits of a new folder, 0040000, or of a new file, 0100000
abbrev pub type_bits_of : Bool → ℕ
type_bits_of folder = if folder then 16384 else 32768

-- the type bits of a symbolic link, 0120000
abbrev pub link_bits : ℕ
link_bits = 40960

-- the type bits of a folder or file whose mode is set: those that it has, or those of a new one where it has none
abbrev pub type_bits_kept : Bool → ℕ → ℕ
type_bits_kept folder bits = if bits == 0 then type_bits_of folder else bits

-- a folder or file that has this mode
abbrev pub with_mode : ℕ → PlainNode → PlainNode
with_mode mode node = record node { type_bits = type_bits_kept node.folder node.type_bits; mode = mode }

-- ---- new ones

-- a folder or file as it is made: its mode, its dates, and nothing in it
abbrev pub new_node : Bool → ℕ → ℕ → PlainNode
new_node folder id moment = record {
  id = id;
  folder = folder;
  type_bits = type_bits_of folder;
  mode = if folder then 493 else 420;
  created = moment;
  changed = moment;
  attribute = moment;
  attributes = [];
  bytes = [];
  resource = [];
  linked = false;
}

-- the tree of a volume that was formatted: the root alone, with mode 0755
abbrev pub fresh_tree : PlainTree
fresh_tree = record { entries = []; nodes = new_node true 2 0 ∷ []; next_id = 18; has_private = false; moment = 0 }

-- ---- what every plain tree is

-- each entry stands in a folder and names a folder or file of its kind
pub record IsNamed (tree : PlainTree) (entry : PlainEntry) : Type 0 where
  pub parent : (node : PlainNode) × (node_at tree entry.parent ≡ Some node) × (node.folder ≡ true)
  pub named : (node : PlainNode) × (node_at tree entry.id ≡ Some node) × (node.folder ≡ entry.folder)

-- Both maps are sorted. The root is a folder without a name. Every other folder has one name, and every file at least one.
pub record IsPlainTree (tree : PlainTree) : Type 0 where
  pub entries_sorted : IsInOrder entry_before tree.entries
  pub nodes_sorted : IsInOrder node_before tree.nodes
  pub attributes_sorted : (node : PlainNode) → Contains tree.nodes node → IsInOrder attribute_before node.attributes
  pub root : (node : PlainNode) × (node_at tree 2 ≡ Some node) × (node.folder ≡ true) × (names_of tree 2 ≡ 0)
  pub named : (entry : PlainEntry) → Contains tree.entries entry → IsNamed tree entry
  pub folders : (node : PlainNode) → Contains tree.nodes node → node.folder ≡ true → (node.id ≡ 2) ⊎ (names_of tree node.id ≡ 1)
  pub files : (node : PlainNode) → Contains tree.nodes node → node.folder ≡ false → 0 < names_of tree node.id
