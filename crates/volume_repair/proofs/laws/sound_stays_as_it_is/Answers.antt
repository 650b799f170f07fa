use Rattle.volume_repair.proofs.Counting.{sound_stays}
use Rattle.volume_repair.proofs.laws.sound_stays_as_it_is.Goals as goal

pub returns : goal.returns
returns c = sound_stays
