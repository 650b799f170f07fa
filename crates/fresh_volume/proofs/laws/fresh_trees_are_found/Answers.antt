use Rattle.fresh_volume.proofs.Trees.{has_fresh_trees}
use Rattle.fresh_volume.proofs.laws.fresh_trees_are_found.Goals as goal

pub returns : goal.returns
returns c sectors block journal name old new can named made = has_fresh_trees sectors block journal name old new can named made
