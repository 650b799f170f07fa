use Rattle.volume_base.proofs.Begun.{begun}
use Rattle.volume_base.proofs.Seeing.{looks_both, looks_reads}
use Rattle.volume_base.proofs.beginning.attach_front.Goals as goal

pub returns-clause-begun : goal.returns-clause-begun
returns-clause-begun g c =
    begun (g.P.SectorView.space c.args.space.now) (g.P.SectorView.space c.read_volume_header.new.view) (g.P.SectorView.space c.attach_extents.new.space) c.in_ok-header.header c.in_ok-extents.extents c.requires.servable (g.met.P.SectorView.well_formed c.args.space.now)
    c.read_volume_header.ensures.reads c.attach_extents.ensures.reads c.in_ok-header.ensures.head c.in_ok-extents.ensures.file c.in_ok-extents.ensures.service

pub returns-in_err-header-clause-looks : goal.returns-in_err-header-clause-looks
returns-in_err-header-clause-looks g c = looks_reads _ (g.P.SectorView.space c.args.space.now) (g.P.SectorView.space c.read_volume_header.new.view) c.read_volume_header.ensures.reads

pub returns-in_err-extents-clause-looks : goal.returns-in_err-extents-clause-looks
returns-in_err-extents-clause-looks g c = looks_both _ (g.P.SectorView.space c.args.space.now) (g.P.SectorView.space c.read_volume_header.new.view) (g.P.SectorView.space c.attach_extents.new.space) (looks_reads _ (g.P.SectorView.space c.args.space.now) (g.P.SectorView.space c.read_volume_header.new.view) c.read_volume_header.ensures.reads) (looks_reads _ (g.P.SectorView.space c.read_volume_header.new.view) (g.P.SectorView.space c.attach_extents.new.space) c.attach_extents.ensures.reads)

pub returns-clause-looks : goal.returns-clause-looks
returns-clause-looks g c = looks_both _ (g.P.SectorView.space c.args.space.now) (g.P.SectorView.space c.read_volume_header.new.view) (g.P.SectorView.space c.attach_extents.new.space) (looks_reads _ (g.P.SectorView.space c.args.space.now) (g.P.SectorView.space c.read_volume_header.new.view) c.read_volume_header.ensures.reads) (looks_reads _ (g.P.SectorView.space c.read_volume_header.new.view) (g.P.SectorView.space c.attach_extents.new.space) c.attach_extents.ensures.reads)

pub returns-in_err-extents-clause-below : goal.returns-in_err-extents-clause-below
returns-in_err-extents-clause-below g c = g.met.P.SectorView.follows_trans c.args.space.now c.read_volume_header.new.view c.attach_extents.new.space c.read_volume_header.ensures.below c.attach_extents.ensures.below

pub returns-clause-below : goal.returns-clause-below
returns-clause-below g c = g.met.P.SectorView.follows_trans c.args.space.now c.read_volume_header.new.view c.attach_extents.new.space c.read_volume_header.ensures.below c.attach_extents.ensures.below
