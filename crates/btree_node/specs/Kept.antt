-- Nodes that are kept in memory.
use Rattle.std.specs.Prelude.{◌≡◌, ◌<◌, ℕ, ◌+◌, ◌^◌, Bool, true, false, IsTrue, List, [], length, slice_index_or}
use Rattle.std.specs.List.{sum_by}
use Rattle.btree_node.specs.Node.{is_node_size}
use Rattle.btree_node.specs.declared.store.TreeShape.{TreeShape}

abbrev pub one_if : Bool → ℕ
one_if true = 1
one_if false = 0

-- As many nodes of its size as the shape says, each with its flags: the first is in use, the shape's free ones are those that aren't, and
-- so many of them weren't written.
pub record AreNodes (shape : TreeShape) (bytes : List (List ℕ)) (flags news : List Bool) (unwritten : ℕ) : Type 0 where
  pub some : 0 < shape.total
  pub small : shape.total < 2 ^ 32
  pub size : IsTrue (is_node_size shape.node_size)
  pub nodes : length bytes ≡ shape.total
  pub used : length flags ≡ shape.total
  pub written : length news ≡ shape.total
  pub sizes : (n : ℕ) → n < length bytes → length (slice_index_or bytes n []) ≡ shape.node_size
  pub header : slice_index_or flags 0 true ≡ true
  pub free : shape.free + sum_by one_if flags ≡ shape.total
  pub left : unwritten + sum_by one_if news ≡ shape.total
