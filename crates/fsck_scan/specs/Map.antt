-- The header node and the map nodes of a tree, read along their links.
use Rattle.std.specs.Prelude.{◌≡◌, ◌⊎◌, ◌<◌, ◌≤◌, ℕ, pos, ◌-◌, List, [], ◌∷◌, ◌++◌, Bool, true, false, length, slice_index, slice_index_or, slice_range, slice_set}
use Rattle.std.specs.List.{All, Contains}
use Rattle.btree_node.specs.Levels.{Nodes}
use Rattle.btree_node.specs.Node.{IsNodeOf, next_of, kind_of, height_of, record_count}
use Rattle.btree_node.specs.TreeFile.{IsHeaderNode, map_chain, map_bytes, map_record}
use Rattle.fsck_scan.specs.Marks.{MarksAll}

-- the map nodes, from the header node's link on
abbrev pub chain_of : Nodes → ℕ → List ℕ
chain_of nodes total = map_chain nodes total (next_of (nodes 0))

-- a node of the file that is a map node with a record
abbrev pub IsMap : Nodes → ℕ → ℕ → Type 0
IsMap nodes total n = (n < total) × IsNodeOf (pos 2) 0 (nodes n) × (0 < record_count (nodes n))

-- nodes that the fork doesn't have are zeros, so they have neither a kind nor a height
abbrev pub AreBlankPast : Nodes → ℕ → ℕ → Type 0
AreBlankPast nodes there total = (n : ℕ) → there ≤ n → n < total → (kind_of (nodes n) ≡ pos 0) × (height_of (nodes n) ≡ 0)

-- The header node is one: it is marked, and its stretch of the map is the first.
pub record TakesHeader (nodes : Nodes) (size : ℕ) (old new : List Bool) (bits node : List ℕ) : Type 0 where
  pub is : IsHeaderNode (nodes 0)
  pub clear : slice_index_or old 0 true ≡ false
  pub marked : new ≡ slice_set old 0 true
  pub bits_are : bits ≡ slice_range (nodes 0) 248 (size - 8)
  pub node_is : node ≡ nodes 0

-- A map node is one, and wasn't marked: it is now, and its stretch of the map stands behind those before it.
pub record TakesMap (nodes : Nodes) (total n : ℕ) (old new : List Bool) (bits more node : List ℕ) : Type 0 where
  pub is : IsMap nodes total n
  pub clear : slice_index_or old n true ≡ false
  pub marked : new ≡ slice_set old n true
  pub bits_are : more ≡ bits ++ map_record (nodes n)
  pub node_is : node ≡ nodes n

-- The header node and the map nodes are what they must be, each is marked once, and these are the bytes of the map.
pub record HasMapRead (nodes : Nodes) (size total : ℕ) (old new : List Bool) (bits : List ℕ) : Type 0 where
  pub header : IsHeaderNode (nodes 0)
  pub each : All (IsMap nodes total) (chain_of nodes total)
  pub marks : MarksAll (0 ∷ chain_of nodes total) old new
  pub bits_are : bits ≡ map_bytes nodes size (chain_of nodes total)

-- the header node isn't one, or a map node isn't one, or comes twice
abbrev pub IsNoMap : Nodes → ℕ → ℕ → Type 0
IsNoMap nodes total n =
    ((n ≡ 0) × (IsHeaderNode (nodes 0) → ⊥)) ⊎ ((Contains (chain_of nodes total) n × (IsMap nodes total n → ⊥))
    ⊎ ((i j : ℕ) × (i < j) × (j < length (chain_of nodes total)) × (n ≡ slice_index (chain_of nodes total) i) × (slice_index (chain_of nodes total) i ≡ slice_index (chain_of nodes total) j)))
