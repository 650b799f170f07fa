use Rattle.volume_repair.proofs.Repairing.{one_repair}
use Rattle.volume_repair.proofs.laws_repair.repair_is_one.Goals as goal

pub returns : goal.returns
returns c = one_repair
