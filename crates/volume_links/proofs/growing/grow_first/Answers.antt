use Rattle.std.proofs.Common.{[], refl}
use Rattle.std.specs.Prelude.{None}
use Rattle.volume_base.specs.Room.{capacity_of}
use Rattle.volume_step.proofs.GrowthSteps.{growth_place, growth_touches}
use Rattle.volume_step.proofs.Performed.{performs_done, performs_drop, performs_err, performs_failed}
use Rattle.volume_step.proofs.Unfilled.{filled_none}
use Rattle.volume_links.proofs.Grown.{growth_kind_steps}
use Rattle.volume_step.proofs.Ready.{grown_now}
use Rattle.volume_links.proofs.growing.grow_first.Goals as goal

pub grow_tree-requires-clause-stands : goal.grow_tree-requires-clause-stands
grow_tree-requires-clause-stands g c = c.requires.serves.stands

pub grow_tree-requires-clause-settled : goal.grow_tree-requires-clause-settled
grow_tree-requires-clause-settled g c tells = c.requires.serves.settled tells

pub returns-clause-answered : goal.returns-clause-answered
returns-clause-answered g c tells =
    growth_kind_steps c.args.tree c.args.more (capacity_of c.args.volume.now) c.args._number c.args._edit.now (g.P.SectorView.space c.args.space.now).content (g.P.SectorView.space c.grow_tree.new.space).content (c.requires.waits tells)
    c.in_ok-went.went (c.in_ok-went.ensures.ahead tells) c.grown.result c.grown.ensures

pub returns-clause-place : goal.returns-clause-place
returns-clause-place g c tells =
    growth_place c.args.tree c.args.more (g.P.SectorView.space c.args.space.now).content (g.P.SectorView.space c.grow_tree.new.space).content c.in_ok-went.went (c.in_ok-went.ensures.ahead tells)

pub returns-clause-filled : goal.returns-clause-filled
returns-clause-filled g c = filled_none (record c.grow_tree.new.volume { filling = None }) (g.P.SectorView.space c.grow_tree.new.space) refl

pub returns-clause-shrunk : goal.returns-clause-shrunk
returns-clause-shrunk g c = c.grow_tree.ensures.same.1

pub returns-clause-frame : goal.returns-clause-frame
returns-clause-frame g c =
    performs_drop None (performs_done c.grow_tree.ensures.below c.in_ok-went.ensures.cause.later c.in_ok-went.ensures.stands (λ tells. c.in_ok-went.ensures.settled tells) (λ committed was. c.grow_tree.ensures.holds committed was) c.grow_tree.ensures.same.2
    (λ committed held laid. growth_touches committed c.args.volume.now c.grow_tree.new.volume (g.P.SectorView.space c.args.space.now) (g.P.SectorView.space c.grow_tree.new.space) (c.grow_tree.ensures.touches committed)) (c.grow_tree.ensures.touches []).same)

pub returns-in_err-went-clause-shrunk : goal.returns-in_err-went-clause-shrunk
returns-in_err-went-clause-shrunk g c = c.grow_tree.ensures.same.1

pub returns-in_err-went-clause-frame : goal.returns-in_err-went-clause-frame
returns-in_err-went-clause-frame g c =
    performs_err c.from_residual.ensures.1 (performs_failed c.grow_tree.ensures.below c.in_err-went.ensures.cause c.grow_tree.ensures.service c.grow_tree.ensures.same.2
    (λ committed held laid. growth_touches committed c.args.volume.now c.grow_tree.new.volume (g.P.SectorView.space c.args.space.now) (g.P.SectorView.space c.grow_tree.new.space) (c.grow_tree.ensures.touches committed)) (c.grow_tree.ensures.touches []).same)

-- a load that wants it makes it grow
pub returns-clause-ready : goal.returns-clause-ready
returns-clause-ready g c tells wants = grown_now c.in_ok-went.went c.grown.result c.grown.ensures (c.in_ok-went.ensures.counted tells wants)
