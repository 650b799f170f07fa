use Rattle.volume_repair.proofs.Keeping.{trees_law}
use Rattle.volume_repair.proofs.laws_whole.repair_keeps_trees.Goals as goal

pub returns : goal.returns
returns c = trees_law
