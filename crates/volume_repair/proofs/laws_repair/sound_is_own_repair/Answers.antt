use Rattle.volume_repair.proofs.OwnRepair.{own}
use Rattle.volume_repair.proofs.laws_repair.sound_is_own_repair.Goals as goal

pub returns : goal.returns
returns c = own
