-- A tree file that grows: more nodes in more sectors, and the same tree in them.
use Rattle.std.specs.Prelude.{◌≡◌, ◌≢◌, ◌⊎◌, ◌<◌, ◌≤◌, ◌%◌, ℕ, ◌+◌, ◌-◌, ◌*◌, ◌/◌, ◌^◌, not, false, IsTrue, Bool, List, [], ◌∷◌, ◌++◌, length, min, slice_index_or}
use Rattle.std.specs.List.{All, count_by, list_all, range_with_len}
use Rattle.hx_bytes.specs.declared.extents.Extent.{Extent}
use Rattle.fork_map.specs.Blocks.{blocks_of, fork_sectors}
use Rattle.fork_map.specs.Cut.{join}
use Rattle.flag_rows.specs.Bits.{bit_of}
use Rattle.btree_node.specs.Node.{next_of}
use Rattle.btree_node.specs.TreeFile.{tree_head, shape_of}
use Rattle.sector_disk.specs.Space.{Space}
use Rattle.btree_file.specs.Frame.{SameForm}
use Rattle.btree_file.specs.Map.{bits_of, is_reserved, IsMapRecord}
use Rattle.btree_file.specs.Place.{IsInside, IsOpen, AreApart, sectors_at}
use Rattle.btree_file.specs.Putting.{unput}
use Rattle.btree_file.specs.Standing.{Stands, LiesInside, LiesOpen}
use Rattle.btree_file.specs.State.{sectors_of_tree, per_node, node_in, used_on, Agrees}
use Rattle.btree_file.specs.declared.tree.Stretch.{Stretch}
use Rattle.btree_file.specs.declared.tree.TreeFile.{TreeFile}

-- the node of the last stretch of a map
abbrev pub last_node : List Stretch → ℕ
last_node map = (slice_index_or map (length map - 1) (record { node = 0; at = 0; len = 0 })).node

-- how many bits a map node has in nodes of this size
abbrev pub bits_each : ℕ → ℕ
bits_each size = 8 * (size - 20)

-- how many map nodes more a map of so many bits takes for so many nodes
abbrev pub map_nodes_for : ℕ → ℕ → ℕ → ℕ
map_nodes_for size bits nodes = (nodes - bits) / bits_each size + min 1 ((nodes - bits) % bits_each size)

-- how many of so many nodes weren't put whole since the last commit
abbrev pub unwritten_in : List ℕ → ℕ → ℕ → (ℕ → Bool) → ℕ
unwritten_in sectors per total put = count_by (λ n. not (list_all put (sectors_at sectors per n))) (range_with_len 0 total)

-- A map node of one record, whose first bit alone is set; no map node stands behind it.
pub record IsNewMapNode (bytes : List ℕ) (stretch : Stretch) : Type 0 where
  pub is_record : IsMapRecord bytes stretch
  pub no_next : next_of bytes ≡ 0
  pub long : stretch.len + 20 ≡ length bytes
  pub own : bit_of bytes (8 * stretch.at) ≡ Bool.true
  pub others : (i : ℕ) → 0 < i → i < 8 * stretch.len → bit_of bytes (8 * stretch.at + i) ≡ false

-- The tree is the same in more nodes: its own nodes and their bits stay, and of the nodes that are new only map nodes are in use.
pub record KeepsTree (before after : TreeFile) (old new : List (List ℕ)) : Type 0 where
  pub order : before.shape.total ≤ after.shape.total
  pub numbers : after.shape ≡ (record {
    node_size = before.shape.node_size;
    depth = before.shape.depth;
    root = before.shape.root;
    first = before.shape.first;
    last = before.shape.last;
    leaf_records = before.shape.leaf_records;
    total = after.shape.total;
    free = after.shape.free;
  })
  pub form : SameForm (tree_head before.header) (tree_head after.header)
  pub nodes : (n : ℕ) → n < before.shape.total → is_reserved before.map.items n ≡ false → node_in after new n ≡ node_in before old n
  pub used : (n : ℕ) → n < before.shape.total → used_on after new n ≡ used_on before old n
  pub reserved : (n : ℕ) → n < before.shape.total → is_reserved after.map.items n ≡ is_reserved before.map.items n
  pub fresh : (n : ℕ) → before.shape.total ≤ n → n < after.shape.total → used_on after new n ≡ is_reserved after.map.items n

-- More nodes of a fork are counted, and the map has more stretches.
pub record CountsMore (before after : TreeFile) : Type 0 where
  pub fork : after.fork ≡ before.fork
  pub per_block : after.per_block ≡ before.per_block
  pub node_size : after.shape.node_size ≡ before.shape.node_size
  pub total : before.shape.total ≤ after.shape.total
  pub free : after.shape.free + length after.map.items + before.shape.total ≡ before.shape.free + length before.map.items + after.shape.total

-- A map has more stretches behind those that it had, in nodes behind so many.
pub record ExtendsMap (total : ℕ) (old new : List Stretch) : Type 0 where
  pub more : List Stretch
  pub items : new ≡ old ++ more
  pub later : All (λ stretch. total ≤ stretch.node) more

-- The room that it took: of the header node, the last map node and the new map nodes each at most once, and of each of so many nodes at most once.
pub record SpendsRoom (nodes : ℕ) (before after : TreeFile) (old new : Space) : Type 0 where
  pub written : old.spare + (unput new.put (sectors_at (sectors_of_tree after) (per_node after.shape) 0) + unput new.put (sectors_at (sectors_of_tree after) (per_node after.shape) (last_node after.map.items))) + length before.map.items * per_node before.shape
      ≤ new.spare + (unput old.put (sectors_at (sectors_of_tree before) (per_node before.shape) 0) + unput old.put (sectors_at (sectors_of_tree before) (per_node before.shape) (last_node before.map.items))) + length after.map.items * per_node before.shape
  pub unwritten : old.spare + unwritten_in (sectors_of_tree after) (per_node after.shape) nodes new.put * per_node after.shape ≤ new.spare + unwritten_in (sectors_of_tree before) (per_node before.shape) nodes old.put * per_node before.shape

-- there is room for the header node, the last map node and so many map nodes more, or for those of so many nodes that aren't written
abbrev pub HasRoomFor : ℕ → ℕ → TreeFile → Space → Type 0
HasRoomFor more nodes tree space = (unput space.put (sectors_at (sectors_of_tree tree) (per_node tree.shape) 0) + unput space.put (sectors_at (sectors_of_tree tree) (per_node tree.shape) (last_node tree.map.items)) + more * per_node tree.shape ≤ space.spare)
    ⊎ (unwritten_in (sectors_of_tree tree) (per_node tree.shape) nodes space.put * per_node tree.shape ≤ space.spare)

-- A tree file on its way to so many nodes, for which its fork has sectors: it agrees with the content, its header node has its numbers, and
-- the last map node stands on its page.
pub record IsGrowing (nodes : ℕ) (tree : TreeFile) (space : Space) : Type 0 where
  pub inside : LiesInside tree space
  pub open_sectors : LiesOpen tree space
  pub few : nodes < 2 ^ 32
  pub whole : nodes * per_node tree.shape ≤ length (sectors_of_tree tree)
  pub some : 0 < length tree.map.items
  pub order : tree.shape.total ≤ nodes
  pub agrees : IsTrue space.tells → Agrees tree space.content
  pub settled : IsTrue space.tells → shape_of (tree_head tree.header) ≡ tree.shape
  pub page : IsTrue space.tells → last_node tree.map.items ≢ 0 → tree.page ≡ node_in tree space.content (last_node tree.map.items)

-- ---- a run that is added

-- how many nodes of this size a run has, where a block has so many sectors
abbrev pub nodes_in : Extent → ℕ → ℕ → ℕ
nodes_in run per_block size = run.count * per_block / (size / 512)

-- how many nodes a tree has with those of a run
abbrev pub nodes_with : TreeFile → Extent → ℕ
nodes_with tree run = tree.shape.total + nodes_in run tree.per_block tree.shape.node_size

-- how many new map nodes the nodes of a run take
abbrev pub map_nodes_with : TreeFile → Extent → ℕ
map_nodes_with tree run = map_nodes_for tree.shape.node_size (bits_of tree.map.items) (nodes_with tree run)

-- the sectors of a tree's fork, and those of a run behind them
abbrev pub sectors_with : TreeFile → Extent → List ℕ
sectors_with tree run = fork_sectors (tree.fork ++ run ∷ []) tree.per_block

-- the blocks of a run lie in a space
abbrev pub RunInside : TreeFile → Extent → Space → Type 0
RunInside tree run space = IsInside (run ∷ []) tree.per_block space

-- no sector of a run is closed
abbrev pub RunOpen : TreeFile → Extent → Space → Type 0
RunOpen tree run space = IsOpen (run ∷ []) tree.per_block space

-- no sector stands in a tree's fork and a run behind it twice
abbrev pub RunApart : TreeFile → Extent → Type 0
RunApart tree run = AreApart (sectors_with tree run)

-- a run is whole nodes of a tree
abbrev pub HasWholeNodes : TreeFile → Extent → Type 0
HasWholeNodes tree run = nodes_in run tree.per_block tree.shape.node_size * (tree.shape.node_size / 512) ≡ run.count * tree.per_block

-- A file was lengthened: its fork begins with the blocks that it had, and its map with its stretches; the others lie in later nodes.
pub record GrewFrom (before after : TreeFile) : Type 0 where
  pub more_blocks : List ℕ
  pub blocks : blocks_of after.fork ≡ blocks_of before.fork ++ more_blocks
  pub per_block : after.per_block ≡ before.per_block
  pub node_size : after.shape.node_size ≡ before.shape.node_size
  pub total : before.shape.total ≤ after.shape.total
  pub map : ExtendsMap before.shape.total before.map.items after.map.items

-- What a run makes of a tree file: the file stands over the content, its tree is the same in more nodes, and the run's nodes are free but for the new map nodes.
pub record HasGrown (run : Extent) (before after : TreeFile) (old new : List (List ℕ)) : Type 0 where
  pub stands : Stands after new
  pub tree : KeepsTree before after old new
  pub total : after.shape.total ≡ nodes_with before run
  pub free : after.shape.free + map_nodes_with before run ≡ before.shape.free + nodes_in run before.per_block before.shape.node_size
  pub blocks : blocks_of after.fork ≡ blocks_of before.fork ++ blocks_of (run ∷ [])
  pub extents : after.fork ≡ join before.fork (run ∷ [])
  pub per_block : after.per_block ≡ before.per_block
  pub grew : GrewFrom before after

-- there is room for two nodes and the new map nodes, or for all nodes that aren't written
abbrev pub HasRoomToGrow : TreeFile → Extent → Space → Type 0
HasRoomToGrow tree run space = ((2 + map_nodes_with tree run) * per_node tree.shape ≤ space.spare) ⊎ (unwritten_in (sectors_with tree run) (per_node tree.shape) (nodes_with tree run) space.put * per_node tree.shape ≤ space.spare)

-- at most the room of two nodes and the new map nodes was taken, and at most that of all nodes that weren't written
pub record TakesRoomToGrow (tree : TreeFile) (run : Extent) (old new : Space) : Type 0 where
  pub written : old.spare ≤ new.spare + (2 + map_nodes_with tree run) * per_node tree.shape
  pub unwritten : old.spare ≤ new.spare + unwritten_in (sectors_with tree run) (per_node tree.shape) (nodes_with tree run) old.put * per_node tree.shape

-- a file keeps what it says of its tree
pub record SaysSame (before after : TreeFile) : Type 0 where
  pub shape : after.shape ≡ before.shape
  pub fork : after.fork ≡ before.fork
  pub per_block : after.per_block ≡ before.per_block
  pub map : after.map.items ≡ before.map.items
  pub header : after.header ≡ before.header

-- It is what it was: the same numbers and blocks, and it stands over a content.
pub record IsBack (before after : TreeFile) (content : List (List ℕ)) : Type 0 where
  pub stands : Stands after content
  pub shape : after.shape ≡ before.shape
  pub blocks : blocks_of after.fork ≡ blocks_of before.fork
  pub per_block : after.per_block ≡ before.per_block
  pub map : after.map.items ≡ before.map.items
  pub header : after.header ≡ before.header
