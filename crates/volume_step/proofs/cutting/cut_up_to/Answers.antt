use Rattle.std.proofs.Common.{[], refl, sym, ◌∙◌, subst}
use Rattle.std.specs.Prelude.{None}
use Rattle.volume_base.specs.Keeping.{shrunk_of}
use Rattle.volume_base.specs.Room.{capacity_of}
use Rattle.volume_space.proofs.Sounding.{sound_here}
use Rattle.volume_step.specs.Steps.{StepsTo, IsDoneOk}
use Rattle.volume_step.specs.declared.outcome.Outcome.{Outcome}
use Rattle.volume_step.proofs.CutSteps.{cut_shrinks, place_by, short_by, steps_by}
use Rattle.volume_step.proofs.Loaded.{cut_loads}
use Rattle.volume_step.proofs.Unfilled.{filled_none, service_filling, settled_filling, stands_filling}
use Rattle.volume_step.proofs.FilledFirst.{cut_undone}
use Rattle.volume_step.proofs.cutting.cut_up_to.Goals as goal

pub returns-clause-answered : goal.returns-clause-answered
returns-clause-answered g c tells =
    let a = (g.P.SectorView.space c.args.space.now) in
    let b = g.P.SectorView.space c.cut_for.new.space in
    let later = (c.cut_for.ensures.frees.ran.touches []).same.tells ∙ tells in
    subst (λ (o : Outcome). StepsTo o (capacity_of c.args.volume.now) c.args._number c.args.command.now a.content b.content) (sym c.outcome_of.ensures)
    (steps_by (capacity_of c.args.volume.now) c.args._number c.args.command.now a.content b.content (c.requires.waits tells) c.requires.changes (sound_here c.args.volume.now a (c.requires.stands.stands tells) (c.requires.settled tells)) c.args.end c.requires.end c.in_ok-came.came
    (sound_here c.cut_for.new.volume b (c.in_ok-came.ensures.serves.stands.stands later) (c.in_ok-came.ensures.serves.settled later)) (c.in_ok-came.ensures.came tells))

pub returns-clause-place : goal.returns-clause-place
returns-clause-place g c tells =
    let a = (g.P.SectorView.space c.args.space.now) in
    let b = g.P.SectorView.space c.cut_for.new.space in
    let later = (c.cut_for.ensures.frees.ran.touches []).same.tells ∙ tells in
    place_by (capacity_of c.args.volume.now) c.args._number c.args.command.now a.content b.content (c.requires.waits tells) c.requires.changes (sound_here c.args.volume.now a (c.requires.stands.stands tells) (c.requires.settled tells)) c.args.end c.requires.end c.in_ok-came.came
    (sound_here c.cut_for.new.volume b (c.in_ok-came.ensures.serves.stands.stands later) (c.in_ok-came.ensures.serves.settled later)) (c.in_ok-came.ensures.came tells)

pub returns-clause-shrunk : goal.returns-clause-shrunk
returns-clause-shrunk g c tells =
    cut_shrinks (capacity_of c.args.volume.now) c.args._number c.args.command.now (g.P.SectorView.space c.args.space.now).content (g.P.SectorView.space c.cut_for.new.space).content (c.requires.waits tells) (shrunk_of c.args.volume.now) (shrunk_of c.cut_for.new.volume) c.cut_for.ensures.frees.used.shrunk c.in_ok-came.came c.outcome_of.result c.outcome_of.ensures

pub returns-clause-holds : goal.returns-clause-holds
returns-clause-holds g c committed was = c.cut_for.ensures.frees.used.holds committed was

pub returns-clause-capacity : goal.returns-clause-capacity
returns-clause-capacity g c = c.cut_for.ensures.frees.used.capacity

pub returns-clause-short : goal.returns-clause-short
returns-clause-short g c tells same =
    short_by (capacity_of c.args.volume.now) c.args.command.now (g.P.SectorView.space c.args.space.now).content (g.P.SectorView.space c.cut_for.new.space).content (g.P.SectorView.space c.args.space.now).spare (c.requires.waits tells) c.args.end c.requires.end
    c.in_ok-came.came (c.in_ok-came.ensures.came tells) (c.in_ok-came.ensures.short tells) (sym c.outcome_of.ensures ∙ same)

pub returns-clause-loads : goal.returns-clause-loads
returns-clause-loads g c tells = cut_loads c.args.command.now c.args.volume.now (g.P.SectorView.space c.args.space.now) (g.P.SectorView.space c.cut_for.new.space) c.requires.changes (c.requires.waits tells) (c.cut_for.ensures.loads tells)

pub returns-in_err-came-clause-loads : goal.returns-in_err-came-clause-loads
returns-in_err-came-clause-loads g c tells = cut_loads c.args.command.now c.args.volume.now (g.P.SectorView.space c.args.space.now) (g.P.SectorView.space c.cut_for.new.space) c.requires.changes (c.requires.waits tells) (c.cut_for.ensures.loads tells)

-- ---- with no growth in hand

pub returns-clause-stands : goal.returns-clause-stands
returns-clause-stands g c = stands_filling c.cut_for.new.volume None (g.P.SectorView.space c.cut_for.new.space) c.in_ok-came.ensures.serves.stands

pub returns-clause-settled : goal.returns-clause-settled
returns-clause-settled g c tells = settled_filling c.cut_for.new.volume None (g.P.SectorView.space c.cut_for.new.space).content (c.in_ok-came.ensures.serves.settled ((c.cut_for.ensures.frees.ran.touches []).same.tells ∙ tells))

pub returns-clause-service : goal.returns-clause-service
returns-clause-service g c = service_filling c.cut_for.new.volume None (g.P.SectorView.space c.cut_for.new.space) c.cut_for.ensures.frees.ran.service

pub returns-clause-filled : goal.returns-clause-filled
returns-clause-filled g c = filled_none (record c.cut_for.new.volume { filling = None }) (g.P.SectorView.space c.cut_for.new.space) refl

pub returns-clause-never : goal.returns-clause-never
returns-clause-never g c done = cut_undone c.in_ok-came.came (subst IsDoneOk c.outcome_of.ensures done)

pub returns-clause-dropped : goal.returns-clause-dropped
returns-clause-dropped g c = refl
