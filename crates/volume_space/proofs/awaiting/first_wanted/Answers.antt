use Rattle.std.proofs.Common.{sym, ◌∙◌, ap}
use Rattle.volume_space.specs.Awaiting.{first_wanted}
use Rattle.volume_space.proofs.awaiting.first_wanted.Goals as goal

pub returns-in-Load : goal.returns-in-Load
returns-in-Load c = c.first_of.ensures 0 ∙ sym (ap first_wanted c.in-Load.is)
