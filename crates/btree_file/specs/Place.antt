-- Where the nodes of a tree file lie: in sectors of its fork.
use Rattle.std.specs.Prelude.{◌≡◌, ◌<◌, ◌≤◌, ℕ, ◌+◌, ◌*◌, ◌/◌, ◌^◌, IsTrue, List, length, take, drop, slice_index, slice_index_or}
use Rattle.std.specs.List.{All}
use Rattle.hx_bytes.specs.declared.extents.Extent.{Extent}
use Rattle.btree_node.specs.Node.{is_node_size}
use Rattle.btree_node.specs.declared.store.TreeShape.{TreeShape}
use Rattle.fork_map.specs.Blocks.{fork_sectors}
use Rattle.sector_disk.specs.Space.{Space}
use Rattle.btree_file.specs.declared.tree.Stretch.{Stretch}

-- the sectors of the node with this number, where a node has so many
abbrev pub sectors_at : List ℕ → ℕ → ℕ → List ℕ
sectors_at sectors per number = take per (drop (number * per) sectors)

-- no sector stands in the list twice
abbrev pub AreApart : List ℕ → Type 0
AreApart sectors = (i j : ℕ) → i < length sectors → j < length sectors → slice_index sectors i ≡ slice_index sectors j → i ≡ j

-- The fork has as many nodes as the shape says, its sectors differ, and the map's stretches lie in different nodes.
pub record IsFile (shape : TreeShape) (fork : List Extent) (per_block : ℕ) (map : List Stretch) : Type 0 where
  pub size : IsTrue (is_node_size shape.node_size)
  pub small : shape.total < 2 ^ 32
  pub whole : shape.total * (shape.node_size / 512) ≤ length (fork_sectors fork per_block)
  pub blocks : per_block ≤ 128
  pub apart : AreApart (fork_sectors fork per_block)
  pub free : shape.free ≤ shape.total
  pub map_inside : All (λ stretch. stretch.node < shape.total) map
  pub map_low : All (λ stretch. stretch.at + stretch.len ≤ shape.node_size) map
  pub map_header : All (λ stretch. stretch.node ≡ 0 → 248 ≤ stretch.at) map
  pub map_apart : (i j : ℕ) (d : Stretch) → i < length map → j < length map → (slice_index_or map i d).node ≡ (slice_index_or map j d).node → i ≡ j

-- the fork's sectors are sectors of the space
abbrev pub IsInside : List Extent → ℕ → Space → Type 0
IsInside fork per_block space = (k : ℕ) → k < length (fork_sectors fork per_block) → slice_index (fork_sectors fork per_block) k < space.sectors

-- none of the fork's sectors is closed
abbrev pub IsOpen : List Extent → ℕ → Space → Type 0
IsOpen fork per_block space = IsTrue space.tells → (k : ℕ) → k < length (fork_sectors fork per_block) → space.closed (slice_index (fork_sectors fork per_block) k) → ⊥
