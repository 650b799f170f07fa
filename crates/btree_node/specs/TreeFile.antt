-- A tree as it stands in a file (TN1150, "B-Trees"): the header record, the nodes by their numbers, and the map of nodes in use.
use Rattle.std.specs.Prelude.{◌≡◌, ◌≢◌, ◌⊎◌, ◌<◌, ◌≤◌, ◌/◌, ℕ, zero, suc, pos, ◌-◌, ◌*◌, ◌==◌, ◌||◌, Bool, true, false, List, [], ◌∷◌, ◌++◌, length, slice_index, slice_index_or, slice_range, if◌then◌else◌}
use Rattle.std.specs.List.{All, flat_map, list_any}
use Rattle.std.specs.declared.cmp.Ordering.{Ordering}
use Rattle.hx_bytes.specs.Field.{big_at}
use Rattle.flag_rows.specs.Bits.{bit_of}
use Rattle.btree_node.specs.Levels.{Nodes}
use Rattle.btree_node.specs.Node.{IsNodeSize, IsNodeOf, items, next_of, record_count}
use Rattle.btree_node.specs.Store.{Store}
use Rattle.btree_node.specs.Tree.{IsTree, HasValues}
use Rattle.btree_node.specs.declared.store.TreeShape.{TreeShape}

-- The header record, which stands at byte 14 of node 0 (TN1150, "Header Record").
pub record TreeHead : Type 0 where
  pub depth : ℕ
  pub root : ℕ
  pub leaf_records : ℕ
  pub first : ℕ
  pub last : ℕ
  pub node_size : ℕ
  pub max_key : ℕ
  pub total : ℕ
  pub free : ℕ
  pub compare : ℕ
  pub attributes : ℕ

-- the fields that the bytes of a header record spell
abbrev pub tree_head : List ℕ → TreeHead
tree_head bytes = record {
  depth = big_at 2 bytes 14;
  root = big_at 4 bytes 16;
  leaf_records = big_at 4 bytes 20;
  first = big_at 4 bytes 24;
  last = big_at 4 bytes 28;
  node_size = big_at 2 bytes 32;
  max_key = big_at 2 bytes 34;
  total = big_at 4 bytes 36;
  free = big_at 4 bytes 40;
  compare = slice_index bytes 51;
  attributes = big_at 4 bytes 52;
}

-- the numbers of the header record that edits change, and those that say how many nodes there are
abbrev pub shape_of : TreeHead → TreeShape
shape_of head = record {
  node_size = head.node_size;
  depth = head.depth;
  root = head.root;
  first = head.first;
  last = head.last;
  leaf_records = head.leaf_records;
  total = head.total;
  free = head.free;
}

-- another header record, with the numbers of this shape; all other bytes stay
pub record SetsShape (shape : TreeShape) (old new : List ℕ) : Type 0 where
  pub numbers : shape_of (tree_head new) ≡ shape
  pub size : length new ≡ length old
  pub others : (k : ℕ) → (k < 14) ⊎ ((34 ≤ k) × (k < 36)) ⊎ (44 ≤ k) → slice_index new k ≡ slice_index old k

-- the bit with this number is set or cleared; the bytes that don't hold it stay
pub record SetsBit (at : ℕ) (value : Bool) (old new : List ℕ) : Type 0 where
  pub size : length new ≡ length old
  pub here : bit_of new at ≡ value
  pub others : (k : ℕ) → k ≢ at → bit_of new k ≡ bit_of old k
  pub bytes : (k : ℕ) → k ≢ at / 8 → slice_index new k ≡ slice_index old k

-- the map nodes, from this one on, at most so many; each names the next one
unfoldable pub map_chain : Nodes → ℕ → ℕ → List ℕ
map_chain nodes zero n = []
map_chain nodes (suc more) n = if n == 0 then [] else n ∷ map_chain nodes more (next_of (nodes n))

-- the first record of a map node, which is its stretch of the map
abbrev pub map_record : List ℕ → List ℕ
map_record node = slice_index_or (items node) 0 []

-- the bytes of the map: those in the header node, then those of each map node
unfoldable pub map_bytes : Nodes → ℕ → List ℕ → List ℕ
map_bytes nodes size chain = slice_range (nodes 0) 248 (size - 8) ++ flat_map (λ n. map_record (nodes n)) chain

-- A tree in its file: the header record, the nodes, which of them are map nodes, and the map.
pub record TreeFile : Type 0 where
  pub head : TreeHead
  pub nodes : Nodes
  pub chain : List ℕ
  pub map : List ℕ

-- the tree with this header record in these nodes
abbrev pub file_of : TreeHead → Nodes → TreeFile
file_of head nodes =
    let chain = map_chain nodes head.total (next_of (nodes 0)) in
    record { head = head; nodes = nodes; chain = chain; map = map_bytes nodes head.node_size chain }

-- the header node and the map nodes
abbrev pub is_reserved_in : List ℕ → ℕ → Bool
is_reserved_in chain n = (n == 0) || list_any (λ other. other == n) chain

-- its nodes as a store, of which nothing was written since a commit
abbrev pub store_of : TreeFile → Store
store_of tree = record {
  tells = true;
  names = [];
  shape = shape_of tree.head;
  header = shape_of tree.head;
  nodes = tree.nodes;
  used = bit_of tree.map;
  reserved = is_reserved_in tree.chain;
  written = λ _. false;
  unwritten = tree.head.total;
  writes_left = 0;
  sectors_left = 0;
  loads = 0;
  faults = 0;
}

-- What the header record of one of the trees of a volume says: its attribute bits, its longest key, and its least node size.
pub record TreeForm : Type 0 where
  pub attributes : ℕ
  pub max_key : ℕ
  pub least_node : ℕ

-- what the header record of the extents overflow file must say (TN1150, "Extents Overflow File")
abbrev pub extents_form : TreeForm
extents_form = record { attributes = 2; max_key = 10; least_node = 512 }

-- what the header record of the catalog file must say (TN1150, "Catalog File")
abbrev pub catalog_form : TreeForm
catalog_form = record { attributes = 6; max_key = 516; least_node = 4096 }

-- what the header record of the attributes file must say (TN1150, "Attributes File")
abbrev pub attributes_form : TreeForm
attributes_form = record { attributes = 6; max_key = 266; least_node = 4096 }

-- a header record of this form; the map has a bit for each node
pub record HasForm (form : TreeForm) (tree : TreeFile) : Type 0 where
  pub size : IsNodeSize tree.head.node_size
  pub least : form.least_node ≤ tree.head.node_size
  pub attributes : tree.head.attributes ≡ form.attributes
  pub max_key : tree.head.max_key ≡ form.max_key
  pub bits : tree.head.total ≤ 8 * length tree.map

-- a header node has three records
abbrev pub IsHeaderNode : List ℕ → Type 0
IsHeaderNode node = IsNodeOf (pos 1) 0 node × (record_count node ≡ 3)

-- a map node has one record at least
abbrev pub IsMapNode : TreeFile → ℕ → Type 0
IsMapNode tree n = (n < tree.head.total) × IsNodeOf (pos 2) 0 (tree.nodes n) × (0 < record_count (tree.nodes n))

-- the header node and the map nodes are what they must be, and no map node comes twice
pub record HasMapNodes (tree : TreeFile) : Type 0 where
  pub header : IsHeaderNode (tree.nodes 0)
  pub each : All (IsMapNode tree) tree.chain
  pub ends : length tree.chain < tree.head.total
  pub distinct : (i j : ℕ) → i < length tree.chain → j < length tree.chain → slice_index tree.chain i ≡ slice_index tree.chain j → i ≡ j

-- A tree in its file, in an order of keys, with such values: its header record, its header node and map nodes, the rules of a tree,
-- and no bit in the map past the last node.
pub record IsTreeFile (form : TreeForm) (is_key : List ℕ → Type 0) (is_value : List ℕ → Type 0) (cmp : List ℕ → List ℕ → Ordering) (tree : TreeFile) : Type 0 where
  pub has_form : HasForm form tree
  pub map_nodes : HasMapNodes tree
  pub rules : IsTree is_key cmp (store_of tree)
  pub values : HasValues is_value (store_of tree)
  pub no_more : (n : ℕ) → tree.head.total ≤ n → bit_of tree.map n ≡ false
