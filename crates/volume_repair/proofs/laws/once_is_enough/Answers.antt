use Rattle.volume_repair.proofs.Counting.{once}
use Rattle.volume_repair.proofs.laws.once_is_enough.Goals as goal

pub returns : goal.returns
returns c = once
