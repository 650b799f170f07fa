use Rattle.volume_base.proofs.Still.{has_them}
use Rattle.volume_space.proofs.Awaits.{bare_awaits}
use Rattle.volume_space.proofs.awaiting.bare_wants.Goals as goal

pub cost_of_bare-requires-clause-has : goal.cost_of_bare-requires-clause-has
cost_of_bare-requires-clause-has g c = has_them c.args.volume.now.header c.if-volume-eq0.false

pub returns : goal.returns
returns g c tells = bare_awaits c.args.volume.now (g.P.SectorView.space c.args.space.now).content (c.requires.serves.settled tells) c.args.change c.cost_of_bare.result (c.cost_of_bare.ensures tells) c.first_wanted.result c.first_wanted.ensures
