use Rattle.std.proofs.Common.{◌≡◌, ◌∙◌, ap, sym, subst}
use Rattle.std.specs.Prelude.{IfSome, Option, Ok, Result, is_some}
use Rattle.std.proofs.lemmas.Bool.{true≢false}
use Rattle.hfs_language.specs.declared.command.Command.{Command}
use Rattle.hfs_language.specs.declared.refusal.Refusal.{Refusal}
use Rattle.hfs_language.specs.declared.reply.Reply.{Reply}
use Rattle.volume_runs.specs.Run.{reply_to}
use Rattle.volume_base.specs.Room.{capacity_of}
use Rattle.volume_base.proofs.Looked.{looked_again, looked_fault, looked_none}
use Rattle.volume_look.proofs.Talks.{taken_is}
use Rattle.volume_look.proofs.answering.answer.Goals as goal

pub returns-then-not-allows-clause-looked : goal.returns-then-not-allows-clause-looked
returns-then-not-allows-clause-looked g c = looked_none g.met.P.SectorView.follows_refl c.requires.serves.stands

pub returns-in-Some-clause-reply : goal.returns-in-Some-clause-reply
returns-in-Some-clause-reply g c tells =
    let most = capacity_of c.args.volume.now in
    let content = (g.P.SectorView.space c.args.space.now).content in
    let asked = c.args.command.now in
    let said : c.in-Some.reply ≡ reply_to most content (Ok asked) = subst (λ (o : Option Reply). IfSome o (λ (reply : Reply). reply ≡ reply_to most content (Ok asked))) c.in-Some.is (c.in_ok-reply.ensures.reply tells) in
    said ∙ ap (λ (r : Result Command Refusal). reply_to most content r) (sym (taken_is asked (sym c.allows.ensures ∙ c.if-not-allows.false)))

pub returns-in-Some-clause-looked : goal.returns-in-Some-clause-looked
returns-in-Some-clause-looked g c = looked_again c.in_ok-reply.ensures.looked

pub returns-in-None-clause-looked : goal.returns-in-None-clause-looked
returns-in-None-clause-looked g c = looked_again c.in_ok-reply.ensures.looked

pub returns-in_err-reply-clause-looked : goal.returns-in_err-reply-clause-looked
returns-in_err-reply-clause-looked g c = looked_fault c.from_residual.ensures.1 c.in_err-reply.ensures.looked

pub returns-in-None-clause-reply : goal.returns-in-None-clause-reply
returns-in-None-clause-reply g c tells =
    absurd (true≢false (sym (c.look_at_command.ensures.reads (sym c.allows.ensures ∙ c.if-not-allows.false)) ∙ sym c.in_ok-reply.ensures.told ∙ ap (λ (o : Option Reply). is_some o) c.in-None.is))
