-- The map of a tree file: bits in stretches of its nodes.
use Rattle.std.specs.Prelude.{◌≡◌, ◌<◌, ℕ, pos, ◌+◌, ◌-◌, ◌*◌, Bool, true, ◌==◌, ◌||◌, nat_lt, if◌then◌else◌, List, [], ◌∷◌, length, slice_index_or}
use Rattle.std.specs.List.{list_any, sum_by}
use Rattle.flag_rows.specs.Bits.{bit_of}
use Rattle.btree_node.specs.Levels.{Nodes}
use Rattle.btree_node.specs.Node.{IsNodeOf, next_of, offset, record_count}
use Rattle.btree_file.specs.declared.tree.Stretch.{Stretch}

-- whether a node has its bit; a node behind the map's end has none to clear, and counts as one that has it
abbrev pub used_in : Nodes → List Stretch → ℕ → Bool
used_in nodes [] n = true
used_in nodes (stretch ∷ rest) n = if nat_lt n (8 * stretch.len) then bit_of (nodes stretch.node) (8 * stretch.at + n) else used_in nodes rest (n - 8 * stretch.len)

-- how many bits there are
abbrev pub bits_of : List Stretch → ℕ
bits_of map = sum_by (λ stretch. 8 * stretch.len) map

-- the header node and the map nodes
abbrev pub is_reserved : List Stretch → ℕ → Bool
is_reserved map n = (n == 0) || list_any (λ stretch. stretch.node == n) map

-- a stretch is the first record of its map node
pub record IsMapRecord (node : List ℕ) (stretch : Stretch) : Type 0 where
  pub grammar : IsNodeOf (pos 2) 0 node
  pub some : 0 < record_count node
  pub from : stretch.at ≡ offset node 0
  pub to : stretch.at + stretch.len ≡ offset node 1

-- The stretches are the header node's and then those of the map nodes, of which each names the next one.
pub record AreStretches (nodes : Nodes) (size : ℕ) (map : List Stretch) : Type 0 where
  pub some : 0 < length map
  pub first : (d : Stretch) → slice_index_or map 0 d ≡ record { node = 0; at = 248; len = size - 256 }
  pub each : (k : ℕ) (d : Stretch) → 0 < k → k < length map → IsMapRecord (nodes (slice_index_or map k d).node) (slice_index_or map k d)
  pub next : (k : ℕ) (d : Stretch) → k + 1 < length map → next_of (nodes (slice_index_or map k d).node) ≡ (slice_index_or map (k + 1) d).node
  pub last : (k : ℕ) (d : Stretch) → k + 1 ≡ length map → next_of (nodes (slice_index_or map k d).node) ≡ 0
