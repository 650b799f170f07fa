-- The way from the root to a leaf, as the desk keeps it.
use Rattle.std.specs.Prelude.{◌≡◌, ◌<◌, ℕ, zero, suc, ◌+◌, ◌-◌, List, length, take, slice_index, slice_index_or}
use Rattle.std.specs.declared.cmp.Ordering.{Ordering}
use Rattle.btree_node.specs.Node.{items}
use Rattle.btree_node.specs.Levels.{entries}
use Rattle.btree_node.specs.Store.{Store}
use Rattle.btree_node.specs.Tree.{level_of}
use Rattle.btree_edit.specs.Reading.{LeadsTo, IsPlace}
use Rattle.btree_edit.specs.declared.desk.PathStep.{PathStep}

-- a step of a way: a node, and the place in it
abbrev pub stop_at : List PathStep → ℕ → PathStep
stop_at path j = slice_index_or path j (record { node = 0; at = 0 })

-- where the node of a way stands in its level: behind the children of the records before the one that leads to it
abbrev pub way_place : Store → List PathStep → ℕ → ℕ
way_place store path zero = 0
way_place store path (suc j) = length (entries store.nodes (take (way_place store path j) (level_of store j))) + (stop_at path j).at

-- each step goes to a child that its record names
pub record IsWay (store : Store) (path : List PathStep) : Type 0 where
  pub inside : (j : ℕ) → j < store.shape.depth → way_place store path j < length (level_of store j)
  pub node : (j : ℕ) → j < store.shape.depth → slice_index (level_of store j) (way_place store path j) ≡ (stop_at path j).node
  pub below : (j : ℕ) → j + 1 < store.shape.depth → (stop_at path j).at < length (items (store.nodes (stop_at path j).node))

-- the way leads to the leaf into which a key belongs, and ends at its place there
pub record LeadsWay (cmp : List ℕ → List ℕ → Ordering) (key : List ℕ) (store : Store) (path : List PathStep) : Type 0 where
  pub some : 0 < store.shape.depth
  pub way : IsWay store path
  pub leads : LeadsTo cmp key store (store.shape.depth - 1) (stop_at path (store.shape.depth - 1)).node
  pub front : length leads.front ≡ way_place store path (store.shape.depth - 1)
  pub place : IsPlace cmp key (items (store.nodes (stop_at path (store.shape.depth - 1)).node)) (stop_at path (store.shape.depth - 1)).at
