-- A tree file over a space of sectors, as a store of nodes.
use Rattle.std.specs.Prelude.{◌≡◌, ◌<◌, ◌≤◌, ℕ, ◌+◌, ◌/◌, Bool, true, false, not, List}
use Rattle.std.specs.List.{list_all, count_by, range_with_len}
use Rattle.btree_node.specs.Levels.{Nodes}
use Rattle.btree_node.specs.Store.{Store}
use Rattle.btree_node.specs.TreeFile.{tree_head, shape_of, IsHeaderNode}
use Rattle.btree_node.specs.declared.store.TreeShape.{TreeShape}
use Rattle.fork_map.specs.Nodes.{node_of}
use Rattle.sector_disk.specs.Space.{Space}
use Rattle.btree_file.specs.Place.{sectors_at}
use Rattle.fork_map.specs.Blocks.{fork_sectors}
use Rattle.btree_file.specs.Map.{used_in, is_reserved, bits_of, AreStretches}
use Rattle.btree_file.specs.declared.tree.Stretch.{Stretch}
use Rattle.btree_file.specs.declared.tree.TreeFile.{TreeFile}

-- sectors of a node
abbrev pub per_node : TreeShape → ℕ
per_node shape = shape.node_size / 512

abbrev pub sectors_of_tree : TreeFile → List ℕ
sectors_of_tree tree = fork_sectors tree.fork tree.per_block

-- the nodes of this size in a content
abbrev pub nodes_on : List ℕ → ℕ → List (List ℕ) → Nodes
nodes_on sectors size content n = node_of content sectors (size / 512) n

-- the bytes of a node in a content
abbrev pub node_in : TreeFile → List (List ℕ) → ℕ → List ℕ
node_in tree content = nodes_on (sectors_of_tree tree) tree.shape.node_size content

-- whether a node has its bit in a content
abbrev pub used_on : TreeFile → List (List ℕ) → ℕ → Bool
used_on tree content = used_in (node_in tree content) tree.map.items

-- each of these sectors was put
abbrev pub all_put : (ℕ → Bool) → List ℕ → Bool
all_put put sectors = list_all put sectors

-- each sector of a node was put
abbrev pub is_written : TreeFile → (ℕ → Bool) → ℕ → Bool
is_written tree put n = all_put put (sectors_at (sectors_of_tree tree) (per_node tree.shape) n)

-- A header node and the stretches of a map are those that a content has in these sectors: with a bit for each node and none behind
-- the last one, as many free nodes as bits that are clear, and the bits of the header node and the map nodes set.
pub record HasMap (sectors : List ℕ) (size total free : ℕ) (map : List Stretch) (header : List ℕ) (content : List (List ℕ)) : Type 0 where
  pub some : 0 < total
  pub header_is : nodes_on sectors size content 0 ≡ header
  pub header_node : IsHeaderNode header
  pub says_size : (tree_head header).node_size ≡ size
  pub says_total : (tree_head header).total ≡ total
  pub stretches : AreStretches (nodes_on sectors size content) size map
  pub bits : total ≤ bits_of map
  pub counted : free + count_by (used_in (nodes_on sectors size content) map) (range_with_len 0 total) ≡ total
  pub reserved : (n : ℕ) → n < total → is_reserved map n ≡ true → used_in (nodes_on sectors size content) map n ≡ true
  pub behind : (n : ℕ) → total ≤ n → n < bits_of map → used_in (nodes_on sectors size content) map n ≡ false

-- what is kept of a tree file is what a content has
abbrev pub Agrees : TreeFile → List (List ℕ) → Type 0
Agrees tree content = HasMap (sectors_of_tree tree) tree.shape.node_size tree.shape.total tree.shape.free tree.map.items tree.header content

-- the store that they are
abbrev pub state_of : List ℕ → TreeFile → Space → Store
state_of names tree space = record {
  tells = space.tells;
  names = names;
  shape = tree.shape;
  header = shape_of (tree_head tree.header);
  nodes = node_in tree space.content;
  used = used_on tree space.content;
  reserved = is_reserved tree.map.items;
  written = λ n. is_written tree space.put n;
  unwritten = count_by (λ n. not (is_written tree space.put n)) (range_with_len 0 tree.shape.total);
  writes_left = space.spare / per_node tree.shape;
  sectors_left = space.spare;
  loads = tree.loads;
  faults = space.faults;
}
