use Rattle.volume_repair.proofs.Repairing.{mendable}
use Rattle.volume_repair.proofs.laws_repair.sound_is_mendable.Goals as goal

pub returns : goal.returns
returns c = mendable
