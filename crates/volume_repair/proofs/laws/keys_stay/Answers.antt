use Rattle.volume_repair.proofs.Counting.{keys_law}
use Rattle.volume_repair.proofs.laws.keys_stay.Goals as goal

pub returns : goal.returns
returns c = keys_law
