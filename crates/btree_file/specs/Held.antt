-- A fork whose sectors hold the nodes of a tree.
use Rattle.std.specs.Prelude.{◌≡◌, ◌<◌, ◌≤◌, ℕ, ◌+◌, ◌*◌, ◌/◌, true, false, List, length}
use Rattle.std.specs.List.{count_by, range_with_len}
use Rattle.flag_rows.specs.Bits.{bit_of}
use Rattle.btree_node.specs.Node.{IsNodeSize}
use Rattle.btree_node.specs.TreeFile.{TreeFile, tree_head, file_of, is_reserved_in, HasMapNodes}
use Rattle.btree_file.specs.State.{nodes_on}

-- the tree in these sectors of a content; the first sector says how long a node is
abbrev pub file_in : List ℕ → List (List ℕ) → TreeFile
file_in sectors content = let head = tree_head (nodes_on sectors 512 content 0) in file_of head (nodes_on sectors head.node_size content)

-- The sectors hold exactly the nodes that the tree counts. Its header node and map nodes are what they must be and have their bits,
-- there is a bit for each node and none behind the last one, and as many nodes are free as bits are clear.
pub record HoldsNodes (sectors : List ℕ) (tree : TreeFile) : Type 0 where
  pub size : IsNodeSize tree.head.node_size
  pub whole : tree.head.total * (tree.head.node_size / 512) ≡ length sectors
  pub map_nodes : HasMapNodes tree
  pub bits : tree.head.total ≤ 8 * length tree.map
  pub free : tree.head.free + count_by (bit_of tree.map) (range_with_len 0 tree.head.total) ≡ tree.head.total
  pub reserved : (n : ℕ) → n < tree.head.total → is_reserved_in tree.chain n ≡ true → bit_of tree.map n ≡ true
  pub no_more : (n : ℕ) → tree.head.total ≤ n → bit_of tree.map n ≡ false
