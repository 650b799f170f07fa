use Rattle.std.proofs.Common.{refl, ◌∙◌, arith}
use Rattle.volume_names.proofs.Dating.{dated_lists, dated_settles, dated_tree}
use Rattle.hfs_volume.specs.Content.{volume_of}
use Rattle.hfs_volume.specs.TreeOf.{tree_of}
use Rattle.volume_base.proofs.Loads.{at_load}
use Rattle.volume_base.proofs.HeaderPut.{stands_dated}
use Rattle.volume_base.proofs.Touched.{touches_header}
use Rattle.volume_names.proofs.heading.at.Goals as goal

pub put_header-requires-clause-stands : goal.put_header-requires-clause-stands
put_header-requires-clause-stands g c = stands_dated c.args.moment c.args.volume.now (g.P.SectorView.space c.args.space.now) c.ranges.moment.fits c.requires.stands

pub returns-clause-touches : goal.returns-clause-touches
returns-clause-touches g c committed = touches_header c.args.volume.now committed (g.P.SectorView.space c.args.space.now) (g.P.SectorView.space c.put_header.new.space) c.put_header.ensures.within

pub returns-clause-reply : goal.returns-clause-reply
returns-clause-reply g c tells = refl

pub returns-clause-tree : goal.returns-clause-tree
returns-clause-tree g c tells = dated_tree c.at_does_its_step.ensures c.args.moment c.args.volume.now (g.P.SectorView.space c.args.space.now) (g.P.SectorView.space c.put_header.new.space) (c.requires.settled tells) (c.requires.stands.stands tells)
    (c.put_header.ensures.stands.stands (c.put_header.ensures.within.same.tells ∙ tells)) (c.put_header.ensures.put tells)

pub returns-clause-settled : goal.returns-clause-settled
returns-clause-settled g c tells = dated_settles c.at_does_its_step.ensures c.args.moment c.args.volume.now (g.P.SectorView.space c.args.space.now) (g.P.SectorView.space c.put_header.new.space) (c.requires.settled tells) (c.requires.stands.stands tells)
    (c.put_header.ensures.stands.stands (c.put_header.ensures.within.same.tells ∙ tells)) (c.put_header.ensures.put tells)

pub returns-clause-loads : goal.returns-clause-loads
returns-clause-loads g c tells n grow is =
    omega (arith, c.put_header.ensures.spent, at_load c.args.volume.now.capacity c.args.moment (volume_of (g.P.SectorView.space c.args.space.now).content) (tree_of (g.P.SectorView.space c.args.space.now).content) n grow is)

pub returns-clause-lists : goal.returns-clause-lists
returns-clause-lists g c tells = dated_lists c.at_does_its_step.ensures c.args.moment c.args.volume.now (g.P.SectorView.space c.args.space.now) (g.P.SectorView.space c.put_header.new.space) (c.requires.settled tells) (c.requires.stands.stands tells)
    (c.put_header.ensures.stands.stands (c.put_header.ensures.within.same.tells ∙ tells)) (c.put_header.ensures.put tells)
