use Rattle.volume_repair.proofs.Counting.{values_law}
use Rattle.volume_repair.proofs.laws.values_stay.Goals as goal

pub returns : goal.returns
returns c = values_law
