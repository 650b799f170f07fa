use Rattle.std.proofs.Common.{◌≡◌, ◌/◌, sym, ◌∙◌, ap}
use Rattle.volume_base.proofs.Opened.{extents_opened}
use Rattle.volume_base.proofs.attaching.attach_extents.Goals as goal

pub returns-clause-file : goal.returns-clause-file
returns-clause-file g c tells good head_is =
    extents_opened (g.P.SectorView.space c.args.space.now).content good c.args.header.now c.in_ok-extents.extents (g.P.SectorView.space c.args.space.now).sectors c.attach_tree.result
    head_is c.in_ok-extents.ensures (g.met.P.SectorView.well_formed c.args.space.now tells) (c.attach_tree.ensures.stands tells)
