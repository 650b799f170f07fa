-- A tree that is read level by level, each node once: how far the reading has come.
use Rattle.std.specs.Prelude.{◌≡◌, ◌≢◌, ◌⊎◌, ◌<◌, ◌≤◌, ℕ, zero, suc, ◌+◌, ◌-◌, ◌/◌, Bool, true, false, List, [], ◌∷◌, ◌++◌, length, map, replicate, slice_index, slice_index_or}
use Rattle.std.specs.List.{All, flat_map, range_with_len}
use Rattle.std.specs.declared.cmp.Ordering.{Ordering}
use Rattle.btree_node.specs.Levels.{Nodes, entries, leaves, pair_of}
use Rattle.btree_node.specs.Tree.{pairs_of}
use Rattle.btree_node.specs.TreeFile.{TreeFile, TreeForm, IsHeaderNode, IsMapNode, store_of}
use Rattle.hfs_volume.specs.Broken.{Finding, node_place, levels_in, level_in, leaves_in, KeepsRules}
use Rattle.fsck_scan.specs.Level.{HasRead}
use Rattle.fsck_scan.specs.Map.{AreBlankPast}
use Rattle.fsck_scan.specs.declared.look.Fault.{Fault}
use Rattle.fsck_scan.specs.declared.look.Fault.TheVariants as fault
use Rattle.fsck_scan.specs.Marks.{MarksAll}

-- the records that name the nodes of a level: those of the level above it, and none for the root
abbrev pub names_at : TreeFile → ℕ → List (List ℕ)
names_at tree zero = []
names_at tree (suc above) = entries tree.nodes (level_in tree above)

-- a level was read whole: each of its nodes is right, and these are its records, node by node up to these ends
abbrev pub IsLevelRead : (List ℕ → Type 0) → (List ℕ → Type 0) → (List ℕ → List ℕ → Ordering) → TreeFile → ℕ → List (List ℕ) → List ℕ → Type 0
IsLevelRead is_key is_value cmp tree j records ends =
    HasRead is_key is_value cmp tree.nodes (tree.head.node_size / 2 - 10) (levels_in tree - j) (level_in tree j) (names_at tree j) (length (level_in tree j)) records ends

-- the header node, the map nodes, and the nodes of so many levels from the root down
abbrev pub come_to : TreeFile → ℕ → List ℕ
come_to tree j = (0 ∷ tree.chain) ++ flat_map (level_in tree) (range_with_len 0 j)

-- The levels above one were read, each node of theirs is in the file, and is marked once, as the header node and the map nodes are.
pub record HasScanned (is_key is_value : List ℕ → Type 0) (cmp : List ℕ → List ℕ → Ordering) (tree : TreeFile) (j : ℕ) (marks : List Bool) : Type 0 where
  pub header : IsHeaderNode (tree.nodes 0)
  pub maps : All (IsMapNode tree) tree.chain
  pub read : (i : ℕ) → i < j → (records : List (List ℕ)) × (ends : List ℕ) × IsLevelRead is_key is_value cmp tree i records ends
  pub inside : (i : ℕ) → i < j → All (λ n. n < tree.head.total) (level_in tree i)
  pub fits : length marks ≤ tree.head.total
  pub marked : MarksAll (come_to tree j) (replicate (length marks) false) marks

-- The scan stands at a level: it and the levels above were read, and these are its nodes, its records, and where those of each node end.
pub record StandsAt (is_key is_value : List ℕ → Type 0) (cmp : List ℕ → List ℕ → Ordering) (tree : TreeFile) (j : ℕ) (marks : List Bool) (ns : List ℕ) (records : List (List ℕ)) (ends : List ℕ) : Type 0 where
  pub scanned : HasScanned is_key is_value cmp tree (j + 1) marks
  pub nodes_are : ns ≡ level_in tree j
  pub read : IsLevelRead is_key is_value cmp tree j records ends

-- nodes that the fork of a tree doesn't have are zeros
abbrev pub IsBlankPast : TreeFile → ℕ → Type 0
IsBlankPast tree there = AreBlankPast tree.nodes there tree.head.total

-- The nodes of a tree are these, of this size, and as many as its header record says.
pub record HasNodes (tree : TreeFile) (nodes : Nodes) (size total : ℕ) : Type 0 where
  pub are : tree.nodes ≡ nodes
  pub size_is : tree.head.node_size ≡ size
  pub total_is : tree.head.total ≡ total

-- The scan stands at a level that has another below it, of this height.
pub record Descends (is_key is_value : List ℕ → Type 0) (cmp : List ℕ → List ℕ → Ordering) (tree : TreeFile) (nodes : Nodes) (size total height j : ℕ) (marks : List Bool) (ns : List ℕ) (records : List (List ℕ)) (ends : List ℕ) : Type 0 where
  pub of_tree : HasNodes tree nodes size total
  pub height_is : levels_in tree - (j + 1) ≡ height
  pub more : j + 1 < levels_in tree
  pub blank : IsBlankPast tree (length marks)
  pub stands : StandsAt is_key is_value cmp tree j marks ns records ends

-- The scan has read the map of a tree, and comes to its root, whose bytes these are.
pub record ComesToRoot (is_key is_value : List ℕ → Type 0) (cmp : List ℕ → List ℕ → Ordering) (tree : TreeFile) (size total height root : ℕ) (marks : List Bool) (node : List ℕ) : Type 0 where
  pub size_is : tree.head.node_size ≡ size
  pub total_is : tree.head.total ≡ total
  pub root_is : tree.head.root ≡ root
  pub height_is : levels_in tree ≡ height
  pub some : 0 < height
  pub node_is : node ≡ tree.nodes root
  pub blank : IsBlankPast tree (length marks)
  pub scanned : HasScanned is_key is_value cmp tree 0 marks

-- a rule without a number fails at this place
abbrev pub failure : ℕ → ℕ → Finding
failure rule place = record { rule = rule; place = place; found = 0; wanted = 1 }

-- the finding of a wrong node of a level, by its place there; a node whose first key isn't the one above is the fault of the node above that names it
abbrev pub IsWrongNode : ℕ → List ℕ → List ℕ → List ℕ → ℕ → Fault → Finding → Type 0
IsWrongNode id above ends ns at fault.Node finding = finding ≡ failure 5 (node_place id (slice_index ns at))
IsWrongNode id above ends ns at fault.Order finding = finding ≡ failure 6 (node_place id (slice_index ns at))
IsWrongNode id above ends ns at fault.Name finding =
    (i : ℕ) × (finding ≡ failure 6 (node_place id (slice_index above i))) × ((k : ℕ) → k < i → slice_index ends k ≤ at) × (i < length ends → at < slice_index ends i) × (i ≤ length ends)

-- The scan has read the map of a tree: its root has this height and these bytes, or there is no root.
pub record HasBegun (is_key is_value : List ℕ → Type 0) (cmp : List ℕ → List ℕ → Ordering) (tree : TreeFile) (size total height root : ℕ) (marks : List Bool) (node : List ℕ) : Type 0 where
  pub size_is : tree.head.node_size ≡ size
  pub total_is : tree.head.total ≡ total
  pub root_is : tree.head.root ≡ root
  pub height_is : levels_in tree ≡ height
  pub node_is : root ≢ 0 → node ≡ tree.nodes root
  pub blank : IsBlankPast tree (length marks)
  pub scanned : HasScanned is_key is_value cmp tree 0 marks

-- All levels of a tree were read: these are its leaves, and their records.
pub record HasAllLevels (is_key is_value : List ℕ → Type 0) (cmp : List ℕ → List ℕ → Ordering) (tree : TreeFile) (marks : List Bool) (ns : List ℕ) (records : List (List ℕ)) : Type 0 where
  pub scanned : HasScanned is_key is_value cmp tree (levels_in tree) marks
  pub nodes_are : ns ≡ leaves_in tree
  pub pairs_are : map pair_of records ≡ leaves tree.nodes tree.head.root (levels_in tree)

-- a tree keeps its rules, and these are the records of its leaves
pub record IsScanned (form : TreeForm) (is_key is_value : List ℕ → Type 0) (cmp : List ℕ → List ℕ → Ordering) (id : ℕ) (tree : TreeFile) (records : List (List ℕ)) : Type 0 where
  pub keeps : KeepsRules form is_key is_value cmp id tree
  pub pairs : map pair_of records ≡ pairs_of (store_of tree)
