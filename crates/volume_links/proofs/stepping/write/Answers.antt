use Rattle.std.proofs.Common.{[], refl, sym, ◌∙◌, arith, subst}
use Rattle.std.specs.Prelude.{None}
use Rattle.hfs_model.specs.declared.kinds.KindEdit.TheVariants as edit
use Rattle.volume_base.specs.Room.{capacity_of}
use Rattle.volume_space.proofs.Sounding.{sound_here}
use Rattle.volume_step.specs.declared.outcome.Outcome.{Outcome}
use Rattle.volume_step.proofs.Done.{same_place}
use Rattle.volume_step.proofs.Unfilled.{filled_none}
use Rattle.volume_links.specs.Steps.{KindStepsTo}
use Rattle.volume_links.proofs.Dropping.{unfilled}
use Rattle.volume_links.proofs.Quiet.{nothing_put}
use Rattle.hfs_language.specs.declared.reply.Reply.TheVariants as reply
use Rattle.volume_step.proofs.Ready.{answered_now}
use Rattle.volume_links.proofs.stepping.write.Goals as goal

pub returns-then-value-eq0-clause-answered : goal.returns-then-value-eq0-clause-answered
returns-then-value-eq0-clause-answered g c tells =
    subst (λ (o : Outcome). KindStepsTo o (capacity_of c.args.volume.now) c.args.number (edit.ResourceWrite c.args.path.now c.args.from c.args.value.now) (g.P.SectorView.space c.args.space.now).content (g.P.SectorView.space c.args.space.now).content) (sym c.answered.ensures)
    (nothing_put (capacity_of c.args.volume.now) c.args.number c.args.path.now c.args.from c.args.value.now (g.P.SectorView.space c.args.space.now).content
    (sound_here c.args.volume.now (g.P.SectorView.space c.args.space.now) (c.requires.serves.stands.stands tells) (c.requires.serves.settled tells)) (c.requires.affords tells) (omega (arith, c.if-value-eq0.true)))

pub returns-then-value-eq0-clause-place : goal.returns-then-value-eq0-clause-place
returns-then-value-eq0-clause-place g c tells = same_place (g.P.SectorView.space c.args.space.now).content (g.P.SectorView.space c.args.space.now).content refl

pub returns-then-value-eq0-clause-filled : goal.returns-then-value-eq0-clause-filled
returns-then-value-eq0-clause-filled g c = filled_none (record c.args.volume.now { filling = None }) (g.P.SectorView.space c.args.space.now) refl

pub returns-then-value-eq0-clause-frame : goal.returns-then-value-eq0-clause-frame
returns-then-value-eq0-clause-frame g c = unfilled g.met.P.SectorView.follows_refl c.requires.serves refl

pub put_resource-requires-clause-some : goal.put_resource-requires-clause-some
put_resource-requires-clause-some g c = omega (arith, c.if-value-eq0.false)

pub returns-then-value-eq0-clause-waits : goal.returns-then-value-eq0-clause-waits
returns-then-value-eq0-clause-waits g c tells same = absurd (answered_now reply.Ok [] (sym c.answered.ensures ∙ same))
