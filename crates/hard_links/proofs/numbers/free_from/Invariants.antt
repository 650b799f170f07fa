use Rattle.std.proofs.Common.{◌≡◌, ◌≤◌, ◌<◌, ◌^◌}
use Rattle.std.specs.Prelude.{IsTrue}
use Rattle.btree_node.specs.Tree.{pairs_of}
use Rattle.btree_edit.specs.Desk.{IsDeskOf}
use Rattle.hard_links.specs.Numbers.{AreTaken, OnlyReads}
use Rattle.hard_links.proofs.numbers.free_from.Given as goal

abbrev pub invariant-loop-number : goal.invariant-loop-number
invariant-loop-number g l = let before = g.N.NodeStore.state l.fn.store in let now = g.N.NodeStore.state l.store in record {
  desk : IsDeskOf before.shape.node_size l.desk;
  taken : IsTrue before.tells → AreTaken (pairs_of before) l.private l.word l.low l.number;
  within : l.low ≤ l.number;
  reads : OnlyReads before now;
  below : g.N.NodeStore.follows l.fn.store l.store;
}
