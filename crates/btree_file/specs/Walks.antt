-- The walk along the map nodes of a tree file.
use Rattle.std.specs.Prelude.{◌≡◌, ◌<◌, ◌≤◌, ℕ, pos, ◌+◌, ◌-◌, List, map, drop, length, slice_index, slice_index_or}
use Rattle.std.specs.List.{All}
use Rattle.btree_node.specs.Levels.{Nodes}
use Rattle.btree_node.specs.Node.{IsNodeOf, next_of, record_count}
use Rattle.btree_node.specs.TreeFile.{map_chain}
use Rattle.btree_file.specs.Map.{IsMapRecord}
use Rattle.btree_file.specs.declared.tree.Stretch.{Stretch}

-- stretches of different nodes, which the file and the nodes have; only the first may stand in the header node
pub record FitsFile (total size : ℕ) (map : List Stretch) : Type 0 where
  pub inside : All (λ stretch. stretch.node < total) map
  pub low : All (λ stretch. stretch.at + stretch.len ≤ size) map
  pub header : All (λ stretch. stretch.node ≡ 0 → 248 ≤ stretch.at) map
  pub apart : (i j : ℕ) (d : Stretch) → i < length map → j < length map → (slice_index_or map i d).node ≡ (slice_index_or map j d).node → i ≡ j

-- the stretches from the header node's on, and the map node that the last of them names
pub record LeadTo (nodes : Nodes) (size : ℕ) (map : List Stretch) (behind : ℕ) : Type 0 where
  pub some : 0 < length map
  pub first : (d : Stretch) → slice_index_or map 0 d ≡ record { node = 0; at = 248; len = size - 256 }
  pub each : (k : ℕ) (d : Stretch) → 0 < k → k < length map → IsMapRecord (nodes (slice_index_or map k d).node) (slice_index_or map k d)
  pub next : (k : ℕ) (d : Stretch) → k + 1 < length map → next_of (nodes (slice_index_or map k d).node) ≡ (slice_index_or map (k + 1) d).node
  pub last : (k : ℕ) (d : Stretch) → k + 1 ≡ length map → next_of (nodes (slice_index_or map k d).node) ≡ behind

-- the chain of map nodes from the header node on: it ends, no node comes twice, and each is a map node with a record
pub record HasChain (total : ℕ) (nodes : Nodes) : Type 0 where
  pub each : All (λ n. (n < total) × IsNodeOf (pos 2) 0 (nodes n) × (0 < record_count (nodes n))) (map_chain nodes total (next_of (nodes 0)))
  pub ends : length (map_chain nodes total (next_of (nodes 0))) < total
  pub distinct : (i j : ℕ) → i < length (map_chain nodes total (next_of (nodes 0))) → j < length (map_chain nodes total (next_of (nodes 0)))
      → slice_index (map_chain nodes total (next_of (nodes 0))) i ≡ slice_index (map_chain nodes total (next_of (nodes 0))) j → i ≡ j

-- the map nodes of these stretches, which stand behind the first
abbrev pub names_of : List Stretch → List ℕ
names_of stretches = map (λ stretch. stretch.node) (drop 1 stretches)
