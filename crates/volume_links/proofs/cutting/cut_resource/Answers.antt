use Rattle.std.proofs.Common.{◌+◌, [], length, refl, sym, ◌∙◌, subst}
use Rattle.std.specs.Prelude.{None}
use Rattle.hfs_model.specs.declared.kinds.KindEdit.TheVariants as edit
use Rattle.hfs_volume.specs.Forks.{resource_kind}
use Rattle.volume_base.specs.Room.{capacity_of}
use Rattle.volume_space.specs.CuttingAhead.{CutsAhead}
use Rattle.volume_space.proofs.Sounding.{sound_here}
use Rattle.volume_step.specs.declared.outcome.Outcome.{Outcome}
use Rattle.volume_step.proofs.Performed.{performs_done, performs_drop, performs_err, performs_failed, performs_own}
use Rattle.volume_step.proofs.Unfilled.{filled_none}
use Rattle.volume_links.specs.Steps.{KindStepsTo}
use Rattle.volume_links.proofs.CutKinds.{cut_places, cut_steps, cut_wants}
use Rattle.volume_links.proofs.cutting.cut_resource.Goals as goal

pub returns-clause-answered : goal.returns-clause-answered
returns-clause-answered g c tells =
    let a = g.P.SectorView.space c.args.space.now in
    let b = g.P.SectorView.space c.cut_fork_ahead.new.space in
    let later = (c.cut_fork_ahead.ensures.frees.ran.touches []).same.tells ∙ tells in
    let sound = sound_here c.args.volume.now a (c.requires.serves.stands.stands tells) (c.requires.serves.settled tells) in
    let sound_after = sound_here c.cut_fork_ahead.new.volume b (c.in_ok-came.ensures.serves.stands.stands later) (c.in_ok-came.ensures.serves.settled later) in
    let came = subst (λ n. CutsAhead c.in_ok-came.came (capacity_of c.args.volume.now) resource_kind c.args.path.now (n + length c.args.value.now) a.content b.content) c.from.ensures (c.in_ok-came.ensures.came tells) in
    subst (λ (o : Outcome). KindStepsTo o (capacity_of c.args.volume.now) c.args._number (edit.ResourceWrite c.args.path.now c.args.from c.args.value.now) a.content b.content) (sym c.outcome_of.ensures)
    (cut_steps c.args.path.now c.args.from c.args.value.now a.content (c.requires.waits tells) (capacity_of c.args.volume.now) c.args._number b.content sound c.in_ok-came.came sound_after came)

pub returns-clause-place : goal.returns-clause-place
returns-clause-place g c tells =
    let a = g.P.SectorView.space c.args.space.now in
    let b = g.P.SectorView.space c.cut_fork_ahead.new.space in
    let sound = sound_here c.args.volume.now a (c.requires.serves.stands.stands tells) (c.requires.serves.settled tells) in
    let came = subst (λ n. CutsAhead c.in_ok-came.came (capacity_of c.args.volume.now) resource_kind c.args.path.now (n + length c.args.value.now) a.content b.content) c.from.ensures (c.in_ok-came.ensures.came tells) in
    cut_places c.args.path.now c.args.from c.args.value.now a.content (c.requires.waits tells) (capacity_of c.args.volume.now) c.args._number b.content sound c.in_ok-came.came came

pub returns-clause-waits : goal.returns-clause-waits
returns-clause-waits g c tells same =
    let a = g.P.SectorView.space c.args.space.now in
    let b = g.P.SectorView.space c.cut_fork_ahead.new.space in
    let sound = sound_here c.args.volume.now a (c.requires.serves.stands.stands tells) (c.requires.serves.settled tells) in
    let came = subst (λ n. CutsAhead c.in_ok-came.came (capacity_of c.args.volume.now) resource_kind c.args.path.now (n + length c.args.value.now) a.content b.content) c.from.ensures (c.in_ok-came.ensures.came tells) in
    cut_wants c.args.volume.now a c.args.path.now c.args.from c.args.value.now (c.requires.waits tells) c.args._number b.content sound c.in_ok-came.came came (c.in_ok-came.ensures.short tells) (sym c.outcome_of.ensures ∙ same)

pub returns-clause-filled : goal.returns-clause-filled
returns-clause-filled g c = filled_none (record c.cut_fork_ahead.new.volume { filling = None }) (g.P.SectorView.space c.cut_fork_ahead.new.space) refl

pub returns-clause-shrunk : goal.returns-clause-shrunk
returns-clause-shrunk g c = c.cut_fork_ahead.ensures.frees.used.shrunk

pub returns-clause-frame : goal.returns-clause-frame
returns-clause-frame g c =
    let ran = c.cut_fork_ahead.ensures.frees.ran in
    performs_own (performs_drop None (performs_done ran.below c.in_ok-came.ensures.frees.ran.cause.later c.in_ok-came.ensures.serves.stands
    (λ tells. c.in_ok-came.ensures.serves.settled ((ran.touches []).same.tells ∙ tells)) (λ committed was. c.cut_fork_ahead.ensures.frees.used.holds committed was) c.cut_fork_ahead.ensures.frees.used.capacity (λ committed held laid. ran.touches committed) (ran.touches []).same))

pub returns-in_err-came-clause-shrunk : goal.returns-in_err-came-clause-shrunk
returns-in_err-came-clause-shrunk g c = c.cut_fork_ahead.ensures.frees.used.shrunk

pub returns-in_err-came-clause-frame : goal.returns-in_err-came-clause-frame
returns-in_err-came-clause-frame g c =
    let ran = c.in_err-came.ensures.frees.ran in
    performs_err c.from_residual.ensures.1 (performs_own (performs_failed ran.below ran.cause ran.service c.cut_fork_ahead.ensures.frees.used.capacity (λ committed held laid. ran.touches committed) (ran.touches []).same))
