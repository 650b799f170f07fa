use Rattle.std.proofs.Common.{◌≤◌, ◌-◌, ◌^◌, ℕ, List}
use Rattle.std.specs.Prelude.{IsTrue}
use Rattle.btree_node.specs.Store.{Store}
use Rattle.btree_edit.specs.Desk.{IsDeskOf}
use Rattle.btree_edit.specs.Editing.{CostsAtMost}
use Rattle.btree_edit.specs.Rising.{IsLowering}
use Rattle.btree_edit.proofs.roots.drop_single_child_roots.Given as goal

abbrev pub invariant-loop-done : goal.invariant-loop-done
invariant-loop-done g l = let before = g.N.NodeStore.state l.fn.store in record {
  depth : l.shape.depth ≤ l.fn.shape.depth;
  lowers : IsTrue before.tells → (start : Store) (records : List (List ℕ)) → before.shape.total ≤ 2 ^ 32 → l.fn.shape.depth ≤ 12
      → IsLowering g.K.KeyOrder.is_key g.K.KeyOrder.cmp g.K.KeyOrder.MAX start before records l.fn.shape l.fn.most → IsLowering g.K.KeyOrder.is_key g.K.KeyOrder.cmp g.K.KeyOrder.MAX start (g.N.NodeStore.state l.store) records l.shape (l.fn.most - l._done);
  desk : IsDeskOf before.shape.node_size l.desk;
  does : CostsAtMost l._done 0 before (g.N.NodeStore.state l.store);
  below : g.N.NodeStore.follows l.fn.store l.store;
}
