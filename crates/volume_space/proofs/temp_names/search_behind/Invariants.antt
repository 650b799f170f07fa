use Rattle.std.proofs.Common.{◌≡◌, ◌≤◌, ◌+◌}
use Rattle.std.specs.Prelude.{IsTrue}
use Rattle.btree_node.specs.Node.{IsNode}
use Rattle.btree_edit.specs.Desk.{IsDeskOf}
use Rattle.btree_edit.specs.Reading.{ReadsNodes}
use Rattle.volume_space.proofs.BehindTemp.{Searches}
use Rattle.volume_space.proofs.temp_names.search_behind.Given as goal

abbrev pub invariant-loop-passed : goal.invariant-loop-passed
invariant-loop-passed g l = let before = g.N.NodeStore.state l.fn.store in let now = g.N.NodeStore.state l.store in record {
  searches : IsTrue before.tells → Searches l.folder before now l.desk l.at l._passed l.found;
  many : l.many ≡ before.shape.leaf_records;
  desk : IsDeskOf before.shape.node_size l.desk;
  well_formed : IsNode l.desk.node;
  reads : ReadsNodes (before.shape.depth + l._passed) before now;
  later : before.faults ≤ now.faults;
  below : g.N.NodeStore.follows l.fn.store l.store;
}
