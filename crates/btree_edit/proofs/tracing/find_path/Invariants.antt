use Rattle.std.proofs.Common.{◌≡◌, ◌≤◌, ◌<◌}
use Rattle.std.specs.Prelude.{IsTrue}
use Rattle.btree_edit.specs.Desk.{IsDeskOf}
use Rattle.btree_edit.specs.Reading.{ReadsNodes}
use Rattle.btree_edit.proofs.Ways.{IsOnWay}
use Rattle.btree_edit.proofs.tracing.find_path.Given as goal

abbrev pub invariant-loop-level : goal.invariant-loop-level
invariant-loop-level g l = let before = g.N.NodeStore.state l.fn.store in record {
  shape : l.shape ≡ before.shape;
  some : 0 < before.shape.depth;
  most : before.shape.depth ≤ 12;
  way : IsTrue before.tells → IsOnWay g.K.KeyOrder.cmp l.key before l.desk.path l.level l.node;
  desk : IsDeskOf before.shape.node_size l.desk;
  held : l.desk.held ≡ l.fn.desk.held;
  first : l.desk.first ≡ l.fn.desk.first;
  reads : ReadsNodes l.level before (g.N.NodeStore.state l.store);
  later : before.faults ≤ (g.N.NodeStore.state l.store).faults;
  below : g.N.NodeStore.follows l.fn.store l.store;
}
