-- The leaf at the end of a way, on the desk.
use Rattle.std.specs.Prelude.{ℕ, ◌-◌, List}
use Rattle.btree_node.specs.Node.{IsNodeOf}
use Rattle.btree_node.specs.Store.{Store}
use Rattle.btree_node.specs.Tree.{kind_at}
use Rattle.btree_edit.specs.Desk.{HoldsLeaf}
use Rattle.btree_edit.specs.Way.{stop_at}
use Rattle.btree_edit.specs.declared.desk.PathStep.{PathStep}

-- these are the bytes of the leaf at which a way through so many levels ends
pub record EndsAt (store : Store) (depth : ℕ) (bytes : List ℕ) (path : List PathStep) : Type 0 where
  pub holds : HoldsLeaf store bytes (stop_at path (depth - 1)).node
  pub is_leaf : IsNodeOf (kind_at 1) 1 bytes
