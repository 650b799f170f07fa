use Rattle.volume_repair.proofs.Repairing.{same_size}
use Rattle.volume_repair.proofs.laws_repair.repair_keeps_size.Goals as goal

pub returns : goal.returns
returns c = same_size
