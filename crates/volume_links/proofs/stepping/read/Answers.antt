use Rattle.std.proofs.Common.{refl, sym, ◌∙◌, subst}
use Rattle.std.specs.Prelude.{None}
use Rattle.hfs_model.specs.declared.kinds.KindEdit.TheVariants as edit
use Rattle.volume_base.specs.Room.{capacity_of}
use Rattle.volume_space.proofs.Sounding.{sound_here}
use Rattle.volume_step.specs.declared.outcome.Outcome.{Outcome}
use Rattle.volume_step.proofs.Done.{same_place}
use Rattle.volume_step.proofs.Performed.{performs_err, performs_from, performs_looked, performs_looked_ok, performs_own}
use Rattle.volume_step.proofs.Unfilled.{filled_none, filled_still, settled_filling, stands_filling}
use Rattle.volume_links.specs.Steps.{KindStepsTo}
use Rattle.volume_links.proofs.Quiet.{read_steps}
use Rattle.volume_links.proofs.stepping.read.Goals as goal

pub read_resource-requires-clause-serves : goal.read_resource-requires-clause-serves
read_resource-requires-clause-serves g c = record {
  stands = stands_filling c.args.volume.now None (g.P.SectorView.space c.args.space.now) c.requires.serves.stands;
  settled = λ tells. settled_filling c.args.volume.now None (g.P.SectorView.space c.args.space.now).content (c.requires.serves.settled tells);
}

pub returns-clause-answered : goal.returns-clause-answered
returns-clause-answered g c tells =
    subst (λ (o : Outcome). KindStepsTo o (capacity_of c.args.volume.now) c.args._number (edit.ResourceRead c.args.path.now c.args.from c.args.long) (g.P.SectorView.space c.args.space.now).content (g.P.SectorView.space c.read_resource.new.space).content) (sym c.answered.ensures)
    (read_steps (capacity_of c.args.volume.now) c.args._number c.args.path.now c.args.from c.args.long (g.P.SectorView.space c.args.space.now).content (g.P.SectorView.space c.read_resource.new.space).content (c.read_resource.ensures.looked.reads.looks.content tells)
    (sound_here c.args.volume.now (g.P.SectorView.space c.args.space.now) (c.requires.serves.stands.stands tells) (c.requires.serves.settled tells)) c.in_ok-reply.reply (c.in_ok-reply.ensures.reply tells))

pub returns-clause-place : goal.returns-clause-place
returns-clause-place g c tells = same_place (g.P.SectorView.space c.args.space.now).content (g.P.SectorView.space c.read_resource.new.space).content (c.read_resource.ensures.looked.reads.looks.content tells)

pub returns-clause-filled : goal.returns-clause-filled
returns-clause-filled g c = filled_still (record c.args.volume.now { filling = None }) c.read_resource.new.self (g.P.SectorView.space c.args.space.now) (g.P.SectorView.space c.read_resource.new.space) c.read_resource.ensures.looked.reads
    (filled_none (record c.args.volume.now { filling = None }) (g.P.SectorView.space c.args.space.now) refl)

pub returns-clause-shrunk : goal.returns-clause-shrunk
returns-clause-shrunk g c = c.read_resource.ensures.looked.reads.keeps.shrunk

pub returns-clause-frame : goal.returns-clause-frame
returns-clause-frame g c = performs_own (performs_from None (performs_looked_ok c.read_resource.ensures.looked c.read_resource.ensures.serves))

pub returns-clause-done : goal.returns-clause-done
returns-clause-done g c same = cc (sym c.answered.ensures ∙ same)

pub returns-in_err-reply-clause-shrunk : goal.returns-in_err-reply-clause-shrunk
returns-in_err-reply-clause-shrunk g c = c.read_resource.ensures.looked.reads.keeps.shrunk

pub returns-in_err-reply-clause-frame : goal.returns-in_err-reply-clause-frame
returns-in_err-reply-clause-frame g c = performs_err c.from_residual.ensures.1 (performs_own (performs_from None (performs_looked c.in_err-reply.ensures.looked c.read_resource.ensures.serves)))
