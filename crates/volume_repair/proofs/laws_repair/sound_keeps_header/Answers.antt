use Rattle.volume_repair.proofs.Repairing.{keeps_header}
use Rattle.volume_repair.proofs.laws_repair.sound_keeps_header.Goals as goal

pub returns : goal.returns
returns c = keeps_header
