use Rattle.std.proofs.Common.{refl}
use Rattle.std.specs.Prelude.{None}
use Rattle.hfs_model.specs.declared.kinds.KindEdit.TheVariants as edit
use Rattle.volume_base.specs.Room.{capacity_of}
use Rattle.volume_step.proofs.Performed.{performs_drop, performs_err, performs_own}
use Rattle.volume_step.proofs.Unfilled.{filled_none}
use Rattle.volume_step.proofs.Valued.{performs_spills}
use Rattle.volume_links.proofs.Stepped.{now_steps}
use Rattle.volume_links.proofs.stepping.link.Goals as goal

pub returns-clause-answered : goal.returns-clause-answered
returns-clause-answered g c tells =
    now_steps c.in_ok-came.came (capacity_of c.args.volume.now) c.args.number (edit.Symlink c.args.path.now c.args.value.now) (g.P.SectorView.space c.args.space.now).content (g.P.SectorView.space c.make_link.new.space).content (c.in_ok-came.ensures.answered tells)

pub returns-clause-filled : goal.returns-clause-filled
returns-clause-filled g c = filled_none (record c.make_link.new.volume { filling = None }) (g.P.SectorView.space c.make_link.new.space) refl

pub returns-clause-shrunk : goal.returns-clause-shrunk
returns-clause-shrunk g c = c.make_link.ensures.spills.shrunk

pub returns-clause-frame : goal.returns-clause-frame
returns-clause-frame g c = performs_own (performs_drop None (performs_spills c.in_ok-came.ensures.spills c.in_ok-came.ensures.serves))

pub returns-in_err-came-clause-shrunk : goal.returns-in_err-came-clause-shrunk
returns-in_err-came-clause-shrunk g c = c.make_link.ensures.spills.shrunk

pub returns-in_err-came-clause-frame : goal.returns-in_err-came-clause-frame
returns-in_err-came-clause-frame g c = performs_err c.from_residual.ensures.1 (performs_own (performs_spills c.in_err-came.ensures.spills tt))

pub returns-clause-done : goal.returns-clause-done
returns-clause-done g c tells = c.in_ok-came.ensures.done tells
