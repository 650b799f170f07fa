use Rattle.std.proofs.Common.{◌≡◌, subst}
use Rattle.std.specs.Prelude.{IfSome, Option, Ok}
use Rattle.hfs_language.specs.declared.reply.Reply.{Reply}
use Rattle.volume_runs.specs.Run.{reply_to}
use Rattle.volume_base.specs.Room.{capacity_of}
use Rattle.volume_space.proofs.Sounding.{sound_here}
use Rattle.volume_step.proofs.Done.{read_steps, same_place}
use Rattle.volume_base.proofs.Looked.{looked_again, looked_fault}
use Rattle.volume_step.proofs.answering.answer.Goals as goal

pub returns-in-Some-clause-answered : goal.returns-in-Some-clause-answered
returns-in-Some-clause-answered g c tells =
    read_steps (capacity_of c.args.volume.now) c.args._number c.args.command.now (g.P.SectorView.space c.args.space.now).content (g.P.SectorView.space c.tell.new.space).content (c.tell.ensures.looked.reads.looks.content tells)
    (sound_here c.args.volume.now (g.P.SectorView.space c.args.space.now) (c.requires.serves.stands.stands tells) (c.requires.serves.settled tells)) c.requires.reads c.in-Some.reply
    (subst (λ (o : Option Reply). IfSome o (λ (reply : Reply). reply ≡ reply_to (capacity_of c.args.volume.now) (g.P.SectorView.space c.args.space.now).content (Ok c.args.command.now))) c.in-Some.is (c.in_ok-reply.ensures.reply tells)) c.new.result c.new.ensures

pub returns-in-Some-clause-place : goal.returns-in-Some-clause-place
returns-in-Some-clause-place g c tells = same_place (g.P.SectorView.space c.args.space.now).content (g.P.SectorView.space c.tell.new.space).content (c.tell.ensures.looked.reads.looks.content tells)

pub returns-in-Some-clause-looked : goal.returns-in-Some-clause-looked
returns-in-Some-clause-looked g c = looked_again c.in_ok-reply.ensures.looked

pub returns-in-None-clause-looked : goal.returns-in-None-clause-looked
returns-in-None-clause-looked g c = looked_again c.in_ok-reply.ensures.looked

pub returns-in_err-reply-clause-looked : goal.returns-in_err-reply-clause-looked
returns-in_err-reply-clause-looked g c = looked_fault c.from_residual.ensures.1 c.in_err-reply.ensures.looked
