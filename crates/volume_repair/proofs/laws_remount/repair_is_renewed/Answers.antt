use Rattle.volume_repair.proofs.Renewing.{renewed_law}
use Rattle.volume_repair.proofs.laws_remount.repair_is_renewed.Goals as goal

pub returns : goal.returns
returns c = renewed_law
