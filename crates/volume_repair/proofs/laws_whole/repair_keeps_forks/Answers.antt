use Rattle.volume_repair.proofs.Keeping.{forks_law}
use Rattle.volume_repair.proofs.laws_whole.repair_keeps_forks.Goals as goal

pub returns : goal.returns
returns c = forks_law
