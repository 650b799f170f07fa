-- The bytes of a whole node, made from its descriptor and its records (TN1150, "Node Structure", "Header Record", "Map Record"), and what is read of them.
use Rattle.std.specs.Prelude.{◌≡◌, ◌<◌, ◌≤◌, ◌^◌, ℕ, ◌+◌, ◌-◌, ◌*◌, Bool, List, [], ◌∷◌, ◌++◌, length, replicate, slice_range}
use Rattle.std.specs.List.{concat}
use Rattle.std.specs.Int.{cast_signed, w8}
use Rattle.hx_bytes.specs.Field.{big}
use Rattle.flag_rows.specs.Bitmap.{bits_bytes}
use Rattle.btree_node.specs.Node.{IsNodeOf, items, next_of, back_of}
use Rattle.btree_node.specs.TreeFile.{TreeHead, tree_head, IsHeaderNode}
use Rattle.btree_node.specs.declared.codec.NodeHead.{NodeHead}
use Rattle.btree_node.specs.declared.codec.TreeHeader.{TreeHeader}

-- the 14 bytes of a descriptor: the links, kind and height, the number of records, two reserved bytes
unfoldable pub descriptor_bytes : NodeHead → ℕ → List ℕ
descriptor_bytes head count = big 4 head.next ++ big 4 head.previous ++ (head.kind ∷ head.height ∷ []) ++ big 2 count ++ big 2 0

-- The table of offsets, which runs backwards: its last two bytes say where the first record begins, those
-- before them where the next one does, and its first two where free space begins.
unfoldable pub offsets_bytes : ℕ → List (List ℕ) → List ℕ
offsets_bytes at [] = big 2 at
offsets_bytes at (item ∷ rest) = offsets_bytes (at + length item) rest ++ big 2 at

-- these bytes are a node of this size with this descriptor and these records, which begin right behind it; the free space between
-- them and the table holds anything
pub record IsPacked (size : ℕ) (bytes : List ℕ) (head : NodeHead) (records : List (List ℕ)) : Type 0 where
  pub free : List ℕ
  pub is : bytes ≡ (descriptor_bytes head (length records) ++ concat records) ++ (free ++ offsets_bytes 14 records)
  pub long : length bytes ≡ size

-- the bytes of a node over these: what they have in its free space stays
unfoldable pub node_over : ℕ → NodeHead → List (List ℕ) → List ℕ → List ℕ
node_over size head records old =
    let used = 14 + length (concat records) in
    let table = size - 2 * (length records + 1) in
    (descriptor_bytes head (length records) ++ concat records) ++ (slice_range old used table ++ offsets_bytes 14 records)

-- the records and their table have room in a node of this size
abbrev pub HasRoomFor : ℕ → List (List ℕ) → Type 0
HasRoomFor size records = 14 + length (concat records) + 2 * (length records + 1) ≤ size

-- where the records are: bytes 0 to 17 of a header record
abbrev pub tree_root_bytes : TreeHeader → List ℕ
tree_root_bytes tree = big 2 tree.depth ++ big 4 tree.root ++ big 4 tree.leaf_records ++ big 4 tree.first_leaf ++ big 4 tree.last_leaf

-- sizes and counts, and a reserved field: bytes 18 to 31
abbrev pub tree_size_bytes : TreeHeader → List ℕ
tree_size_bytes tree = big 2 tree.node_size ++ big 2 tree.max_key_length ++ big 4 tree.total_nodes ++ big 4 tree.free_nodes ++ big 2 0

-- what kind of tree it is, and the rest, which is reserved: bytes 32 to 105
abbrev pub tree_kind_bytes : TreeHeader → List ℕ
tree_kind_bytes tree = big 4 tree.clump_size ++ (tree.tree_type ∷ tree.key_compare_type ∷ []) ++ big 4 tree.attributes ++ replicate 64 0

-- the 106 bytes of a header record, its reserved bytes zero
unfoldable pub tree_header_bytes : TreeHeader → List ℕ
tree_header_bytes tree = tree_root_bytes tree ++ tree_size_bytes tree ++ tree_kind_bytes tree

-- the records of a header node: the header record, 128 bytes of user data, and the map, which fills the node, with a bit for each node
unfoldable pub header_items : TreeHeader → (ℕ → Bool) → List (List ℕ)
header_items tree is_used = tree_header_bytes tree ∷ replicate 128 0 ∷ bits_bytes is_used 0 (tree.node_size - 256) ∷ []

-- the descriptor of a header node that no map node follows
abbrev pub header_head : NodeHead
header_head = record { next = 0; previous = 0; kind = 1; height = 0 }

-- the descriptor of a leaf without siblings
abbrev pub leaf_head : NodeHead
leaf_head = record { next = 0; previous = 0; kind = 255; height = 1 }

-- the header node of a tree with this header record, whose map marks these nodes
abbrev pub IsHeaderOf : TreeHeader → (ℕ → Bool) → List ℕ → Type 0
IsHeaderOf tree is_used bytes = IsPacked tree.node_size bytes header_head (header_items tree is_used)

-- the numbers of a descriptor fit their fields
pub record FitsNodeHead (head : NodeHead) : Type 0 where
  pub next : head.next < 2 ^ 32
  pub previous : head.previous < 2 ^ 32

-- the numbers of a header record fit their fields
pub record FitsTreeHeader (tree : TreeHeader) : Type 0 where
  pub depth : tree.depth < 2 ^ 16
  pub root : tree.root < 2 ^ 32
  pub leaf_records : tree.leaf_records < 2 ^ 32
  pub first_leaf : tree.first_leaf < 2 ^ 32
  pub last_leaf : tree.last_leaf < 2 ^ 32
  pub max_key_length : tree.max_key_length < 2 ^ 16
  pub total_nodes : tree.total_nodes < 2 ^ 32
  pub free_nodes : tree.free_nodes < 2 ^ 32
  pub attributes : tree.attributes < 2 ^ 32

-- what is read of a node: its kind and its height, its records as the offsets cut them, and its links
pub record ReadsBack (bytes : List ℕ) (head : NodeHead) (records : List (List ℕ)) : Type 0 where
  pub is_node : IsNodeOf (cast_signed w8 head.kind) head.height bytes
  pub items : items bytes ≡ records
  pub next : next_of bytes ≡ head.next
  pub back : back_of bytes ≡ head.previous

-- the fields of a header record that are read
abbrev pub head_of : TreeHeader → TreeHead
head_of tree = record {
  depth = tree.depth;
  root = tree.root;
  leaf_records = tree.leaf_records;
  first = tree.first_leaf;
  last = tree.last_leaf;
  node_size = tree.node_size;
  max_key = tree.max_key_length;
  total = tree.total_nodes;
  free = tree.free_nodes;
  compare = tree.key_compare_type;
  attributes = tree.attributes;
}

-- what is read of a header node: its three records, that no map node follows, the header record, and the map
pub record HeaderReadsBack (bytes : List ℕ) (tree : TreeHeader) (is_used : ℕ → Bool) : Type 0 where
  pub node : IsHeaderNode bytes
  pub next : next_of bytes ≡ 0
  pub head : tree_head bytes ≡ head_of tree
  pub map : slice_range bytes 248 (tree.node_size - 8) ≡ bits_bytes is_used 0 (tree.node_size - 256)
