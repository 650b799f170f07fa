use Rattle.volume_repair.proofs.Recounting.{counts_law}
use Rattle.volume_repair.proofs.laws_whole.repair_counts.Goals as goal

pub returns : goal.returns
returns c = counts_law
