use Rattle.volume_space.proofs.Awaits.{drop_awaits}
use Rattle.volume_space.proofs.awaiting.drop_wants.Goals as goal

pub returns : goal.returns
returns g c tells = drop_awaits c.args.volume.now (g.P.SectorView.space c.args.space.now).content (c.requires.serves.settled tells) c.cost_of_edits.result (c.cost_of_edits.ensures.exact tells) c.first_wanted.result c.first_wanted.ensures
