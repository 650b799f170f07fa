use Rattle.std.proofs.Common.{◌≡◌, ◌≤◌, ◌-◌}
use Rattle.std.specs.Prelude.{IsTrue}
use Rattle.btree_edit.specs.Desk.{IsDeskOf}
use Rattle.btree_edit.specs.Reading.{ReadsNodes, LeadsTo}
use Rattle.btree_edit.proofs.finding.descend.Given as goal

abbrev pub decreases-loop-height : goal.decreases-loop-height
decreases-loop-height g l = l.height

abbrev pub invariant-loop-height : goal.invariant-loop-height
invariant-loop-height g l = let before = g.N.NodeStore.state l.fn.store in record {
  low : 1 ≤ l.height;
  high : l.height ≤ before.shape.depth;
  most : before.shape.depth ≤ 12;
  leads : IsTrue before.tells → LeadsTo g.K.KeyOrder.cmp l.key before (before.shape.depth - l.height) l.node;
  desk : IsDeskOf before.shape.node_size l.desk;
  held : l.desk.held ≡ l.fn.desk.held;
  reads : ReadsNodes (before.shape.depth - l.height) before (g.N.NodeStore.state l.store);
  later : before.faults ≤ (g.N.NodeStore.state l.store).faults;
  below : g.N.NodeStore.follows l.fn.store l.store;
}
