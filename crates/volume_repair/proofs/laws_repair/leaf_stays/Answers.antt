use Rattle.volume_repair.proofs.Leaves.{leaf_law}
use Rattle.volume_repair.proofs.laws_repair.leaf_stays.Goals as goal

pub returns : goal.returns
returns c = leaf_law
