use Rattle.volume_base.proofs.Commanding.{touches_none}
use Rattle.volume_space.proofs.Spreads.{keeps_none}
use Rattle.volume_space.proofs.storing.keep_extents.Goals as goal

pub returns-clause-spreads : goal.returns-clause-spreads
returns-clause-spreads g c tells = keeps_none c.args.volume.now (g.P.SectorView.space c.args.space.now).content c.args._id c.args._kind c.args._list.now c.args.later.now c.requires.short (c.is_in_record.ensures c.if-not-is_in_record.false) (c.requires.has tells)

pub returns-clause-touches : goal.returns-clause-touches
returns-clause-touches g c committed = touches_none committed _ (g.P.SectorView.space c.args.space.now)
