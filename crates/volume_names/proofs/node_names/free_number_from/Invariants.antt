use Rattle.std.proofs.Common.{◌≤◌}
use Rattle.std.specs.Prelude.{IsTrue, codes}
use Rattle.btree_file.specs.Standing.{pairs_in}
use Rattle.btree_file.specs.State.{sectors_of_tree}
use Rattle.hard_links.specs.Numbers.{AreTaken}
use Rattle.volume_base.specs.Looking.{IsCatalogOver, ReadsTree}
use Rattle.volume_names.proofs.node_names.free_number_from.Given as goal

abbrev pub invariant-loop-number : goal.invariant-loop-number
invariant-loop-number g l = let before = g.P.SectorView.space l.fn.space in let now = g.P.SectorView.space l.space in record {
  over : IsCatalogOver l.tree l.desk now;
  taken : IsTrue before.tells → AreTaken (pairs_in (sectors_of_tree l.fn.tree) before.content) l.private (codes "iNode") l.low l.number;
  within : l.low ≤ l.number;
  reads : ReadsTree l.fn.tree l.tree before now;
  below : g.P.SectorView.follows l.fn.space l.space;
}
