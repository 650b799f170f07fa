use Rattle.std.proofs.Common.{◌≡◌, ◌≤◌, ◌+◌}
use Rattle.std.specs.Prelude.{IsTrue}
use Rattle.btree_node.specs.Keys.{IsAttrKey, attr_cmp}
use Rattle.btree_node.specs.Node.{IsNode}
use Rattle.btree_node.specs.Tree.{IsTree, pairs_of}
use Rattle.btree_edit.specs.Desk.{IsDeskOf}
use Rattle.btree_edit.specs.Reading.{ReadsNodes}
use Rattle.attributes.proofs.Walks.{Follows}
use Rattle.attributes.proofs.finding.push_further.Given as goal

abbrev pub invariant-loop-passed : goal.invariant-loop-passed
invariant-loop-passed g l = let before = g.N.NodeStore.state l.fn.store in let now = g.N.NodeStore.state l.store in record {
  within : l._passed ≤ l.many;
  desk : IsDeskOf before.shape.node_size l.desk;
  well_formed : IsNode l.desk.node;
  pairs : IsTrue before.tells → pairs_of now ≡ pairs_of before;
  tree : IsTrue before.tells → IsTree IsAttrKey attr_cmp now;
  follows : IsTrue before.tells → Follows l.key before now l.desk l.at l._passed l.fn.list l.list;
  reads : ReadsNodes (before.shape.depth + l._passed) before now;
  later : before.faults ≤ now.faults;
  below : g.N.NodeStore.follows l.fn.store l.store;
}
