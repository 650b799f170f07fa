use Rattle.std.proofs.Common.{◌≡◌, ◌≤◌, IsTrue, drop}
use Rattle.btree_file.specs.Standing.{pairs_in}
use Rattle.btree_file.specs.State.{sectors_of_tree}
use Rattle.volume_base.specs.Looking.{IsCatalogOver, ReadsTree}
use Rattle.volume_base.specs.Reaching.{walk_in}
use Rattle.volume_base.specs.declared.reaching.Reached.TheVariants as reached
use Rattle.volume_base.proofs.reaching.walk.Given as goal

abbrev pub invariant-loop-name : goal.invariant-loop-name
invariant-loop-name g l = let old = g.P.SectorView.space l.fn.space in let now = g.P.SectorView.space l.space in record {
  found : IsTrue old.tells → walk_in (pairs_in (sectors_of_tree l.fn.tree) old.content) reached.Root l.path ≡ walk_in (pairs_in (sectors_of_tree l.fn.tree) old.content) l.at (drop l.name-index l.path);
  over : IsCatalogOver l.tree l.desk now;
  reads : ReadsTree l.fn.tree l.tree old now;
  later : old.faults ≤ now.faults;
  below : g.P.SectorView.follows l.fn.space l.space;
}
