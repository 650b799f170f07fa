use Rattle.std.proofs.Common.{◌∙◌, ap}
use Rattle.volume_header.specs.declared.header.VolumeHeader.{VolumeHeader}
use Rattle.volume_names.proofs.Mounted.{mark_numbers, marks}
use Rattle.volume_base.proofs.Numbering.{stands_with}
use Rattle.volume_base.proofs.Touched.{touches_header}
use Rattle.volume_names.proofs.mounting.mark.Goals as goal

pub put_header-requires-clause-stands : goal.put_header-requires-clause-stands
put_header-requires-clause-stands g c =
    stands_with c.marked-volume.result c.args.volume.now (g.P.SectorView.space c.args.space.now) (mark_numbers c.args.in_use c.args.volume.now.header c.marked-volume.result c.marked-volume.ensures.same) (c.marked-volume.ensures.fits c.requires.stands.service.fits) c.requires.stands

pub returns-clause-touches : goal.returns-clause-touches
returns-clause-touches g c committed = touches_header c.args.volume.now committed (g.P.SectorView.space c.args.space.now) (g.P.SectorView.space c.put_header.new.space) c.put_header.ensures.within

pub returns-clause-tree : goal.returns-clause-tree
returns-clause-tree g c tells = (marks c.mount_keeps_the_tree.ensures c.args.in_use c.args.volume.now c.marked-volume.result c.marked-volume.ensures.same (g.P.SectorView.space c.args.space.now) (g.P.SectorView.space c.put_header.new.space) (c.requires.settled tells) (c.requires.stands.stands tells)
    (c.put_header.ensures.stands.stands (c.put_header.ensures.within.same.tells ∙ tells)) (c.put_header.ensures.put tells)).1

pub returns-clause-lists : goal.returns-clause-lists
returns-clause-lists g c tells = (marks c.mount_keeps_the_tree.ensures c.args.in_use c.args.volume.now c.marked-volume.result c.marked-volume.ensures.same (g.P.SectorView.space c.args.space.now) (g.P.SectorView.space c.put_header.new.space) (c.requires.settled tells) (c.requires.stands.stands tells)
    (c.put_header.ensures.stands.stands (c.put_header.ensures.within.same.tells ∙ tells)) (c.put_header.ensures.put tells)).2

pub returns-clause-settled : goal.returns-clause-settled
returns-clause-settled g c tells = (marks c.mount_keeps_the_tree.ensures c.args.in_use c.args.volume.now c.marked-volume.result c.marked-volume.ensures.same (g.P.SectorView.space c.args.space.now) (g.P.SectorView.space c.put_header.new.space) (c.requires.settled tells) (c.requires.stands.stands tells)
    (c.put_header.ensures.stands.stands (c.put_header.ensures.within.same.tells ∙ tells)) (c.put_header.ensures.put tells)).0

pub returns-clause-rest : goal.returns-clause-rest
returns-clause-rest g c = ap (λ (h : VolumeHeader). record c.args.volume.now { header = h }) c.marked-volume.ensures.same
