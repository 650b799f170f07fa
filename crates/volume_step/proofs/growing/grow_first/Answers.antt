use Rattle.std.proofs.Common.{refl, subst}
use Rattle.std.specs.Prelude.{None}
use Rattle.volume_base.specs.Keeping.{shrunk_of}
use Rattle.volume_base.specs.Room.{capacity_of}
use Rattle.volume_step.proofs.GrowthSteps.{growth_place, growth_shrinks, growth_steps, growth_touches}
use Rattle.volume_step.proofs.Ready.{grown_now}
use Rattle.volume_step.proofs.Unfilled.{filled_none, service_filling, settled_filling, stands_filling}
use Rattle.volume_step.specs.Steps.{IsDoneOk}
use Rattle.volume_step.proofs.FilledFirst.{growth_undone}
use Rattle.volume_step.proofs.growing.grow_first.Goals as goal

pub returns-clause-answered : goal.returns-clause-answered
returns-clause-answered g c tells =
    let a = g.P.SectorView.space c.args.space.now in
    let b = g.P.SectorView.space c.grow_tree.new.space in
    growth_steps c.args.tree c.args.more (capacity_of c.args.volume.now) c.args._number c.args._command.now a.content b.content (c.requires.waits tells)
    c.in_ok-went.went (c.in_ok-went.ensures.ahead tells) c.grown.result c.grown.ensures

pub returns-clause-place : goal.returns-clause-place
returns-clause-place g c tells =
    growth_place c.args.tree c.args.more (g.P.SectorView.space c.args.space.now).content (g.P.SectorView.space c.grow_tree.new.space).content c.in_ok-went.went (c.in_ok-went.ensures.ahead tells)

pub returns-clause-shrunk : goal.returns-clause-shrunk
returns-clause-shrunk g c tells =
    growth_shrinks c.args._command.now (g.P.SectorView.space c.args.space.now).content (shrunk_of c.args.volume.now) (shrunk_of c.grow_tree.new.volume) c.grow_tree.ensures.same.1 c.in_ok-went.went c.grown.result c.grown.ensures

pub returns-clause-holds : goal.returns-clause-holds
returns-clause-holds g c committed was = c.grow_tree.ensures.holds committed was

pub returns-clause-capacity : goal.returns-clause-capacity
returns-clause-capacity g c = c.grow_tree.ensures.same.2

pub returns-clause-touches : goal.returns-clause-touches
returns-clause-touches g c committed = growth_touches committed c.args.volume.now c.grow_tree.new.volume (g.P.SectorView.space c.args.space.now) (g.P.SectorView.space c.grow_tree.new.space) (c.grow_tree.ensures.touches committed)

pub returns-in_err-went-clause-touches : goal.returns-in_err-went-clause-touches
returns-in_err-went-clause-touches g c committed = growth_touches committed c.args.volume.now c.grow_tree.new.volume (g.P.SectorView.space c.args.space.now) (g.P.SectorView.space c.grow_tree.new.space) (c.grow_tree.ensures.touches committed)

pub returns-clause-ready : goal.returns-clause-ready
returns-clause-ready g c tells fits = grown_now c.in_ok-went.went c.grown.result c.grown.ensures (c.in_ok-went.ensures.counted tells fits)

pub returns-clause-spent : goal.returns-clause-spent
returns-clause-spent g c tells wants = c.grow_tree.ensures.loads tells wants

pub returns-in_err-went-clause-spent : goal.returns-in_err-went-clause-spent
returns-in_err-went-clause-spent g c tells wants = c.grow_tree.ensures.loads tells wants

-- ---- with no growth in hand

pub returns-clause-stands : goal.returns-clause-stands
returns-clause-stands g c = stands_filling c.grow_tree.new.volume None (g.P.SectorView.space c.grow_tree.new.space) c.in_ok-went.ensures.stands

pub returns-clause-settled : goal.returns-clause-settled
returns-clause-settled g c tells = settled_filling c.grow_tree.new.volume None (g.P.SectorView.space c.grow_tree.new.space).content (c.in_ok-went.ensures.settled tells)

pub returns-clause-service : goal.returns-clause-service
returns-clause-service g c = service_filling c.grow_tree.new.volume None (g.P.SectorView.space c.grow_tree.new.space) c.grow_tree.ensures.service

pub returns-clause-filled : goal.returns-clause-filled
returns-clause-filled g c = filled_none (record c.grow_tree.new.volume { filling = None }) (g.P.SectorView.space c.grow_tree.new.space) refl

pub returns-clause-never : goal.returns-clause-never
returns-clause-never g c done = growth_undone c.in_ok-went.went (subst IsDoneOk c.grown.ensures done)

pub returns-clause-dropped : goal.returns-clause-dropped
returns-clause-dropped g c = refl
