use Rattle.std.proofs.Common.{◌≤◌}
use Rattle.std.specs.Prelude.{IsTrue}
use Rattle.btree_edit.specs.Desk.{IsDeskOf}
use Rattle.overflow.proofs.Costs.{HasMade}
use Rattle.overflow.proofs.Steps.{HasChanged}
use Rattle.overflow.proofs.storing.make_changes.Given as goal

abbrev pub invariant-loop-change : goal.invariant-loop-change
invariant-loop-change g l = let before = g.N.NodeStore.state l.fn.store in record {
  desk : IsDeskOf before.shape.node_size l.desk;
  made : HasMade l.changes l.change-index before (g.N.NodeStore.state l.store);
  told : IsTrue before.tells → HasChanged l.id l.fork l.changes l.change-index before (g.N.NodeStore.state l.store);
  later : before.faults ≤ (g.N.NodeStore.state l.store).faults;
  below : g.N.NodeStore.follows l.fn.store l.store;
}
