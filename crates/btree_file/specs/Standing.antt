-- A tree file over a content that holds its tree.
use Rattle.std.specs.Prelude.{◌≡◌, ℕ, ◌*◌, List, length}
use Rattle.std.specs.declared.cmp.Ordering.{Ordering}
use Rattle.btree_node.specs.Levels.{Pair}
use Rattle.btree_node.specs.Tree.{pairs_of}
use Rattle.btree_node.specs.TreeFile.{TreeForm, IsTreeFile, tree_head, shape_of, store_of}
use Rattle.btree_node.specs.declared.store.TreeShape.{TreeShape}
use Rattle.sector_disk.specs.Space.{Space}
use Rattle.btree_file.specs.Held.{file_in}
use Rattle.btree_file.specs.Place.{IsInside, IsOpen}
use Rattle.btree_file.specs.State.{sectors_of_tree, nodes_on, per_node, Agrees}
use Rattle.btree_file.specs.declared.tree.TreeFile.{TreeFile}

-- What is kept of a tree file is what a content has: its map, the numbers of its header record, and as many nodes as the fork holds.
pub record Stands (tree : TreeFile) (content : List (List ℕ)) : Type 0 where
  pub agrees : Agrees tree content
  pub settled : shape_of (tree_head tree.header) ≡ tree.shape
  pub whole : tree.shape.total * per_node tree.shape ≡ length (sectors_of_tree tree)
  pub first : length (nodes_on (sectors_of_tree tree) 512 content 0) ≡ 512

-- It stands so, and the content has a tree in these sectors, of this form, in an order of keys and with such values.
pub record HoldsTree (form : TreeForm) (is_key is_value : List ℕ → Type 0) (cmp : List ℕ → List ℕ → Ordering) (tree : TreeFile) (content : List (List ℕ)) : Type 0 where
  pub stands : Stands tree content
  pub file : IsTreeFile form is_key is_value cmp (file_in (sectors_of_tree tree) content)

-- the pairs of the tree that a content has in these sectors
abbrev pub pairs_in : List ℕ → List (List ℕ) → List Pair
pairs_in sectors content = pairs_of (store_of (file_in sectors content))

-- the numbers of its header record that a tree file keeps
abbrev pub numbers_of : TreeFile → TreeShape
numbers_of tree = tree.shape

-- the blocks of its fork lie in a space
abbrev pub LiesInside : TreeFile → Space → Type 0
LiesInside tree space = IsInside tree.fork tree.per_block space

-- none of them is closed
abbrev pub LiesOpen : TreeFile → Space → Type 0
LiesOpen tree space = IsOpen tree.fork tree.per_block space
