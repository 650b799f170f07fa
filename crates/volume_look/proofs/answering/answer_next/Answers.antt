use Rattle.std.proofs.Common.{◌∙◌}
use Rattle.volume_base.specs.Room.{capacity_of}
use Rattle.volume_look.proofs.Talks.{right_none, right_unsure}
use Rattle.volume_base.proofs.Looked.{looked_again, looked_fault, looked_none, looked_short, looked_wanting}
use Rattle.volume_look.proofs.answering.answer_next.Goals as goal

pub returns-in_err-reply-in-Ok-Some-clause-right : goal.returns-in_err-reply-in-Ok-Some-clause-right
returns-in_err-reply-in-Ok-Some-clause-right g c tells told =
    right_none (capacity_of c.args.volume.now) (g.P.SectorView.space c.args.space.now).content (g.A.Asker.state c.args.asker.now) (g.A.Asker.state c.ask.new.self) (c.ask.ensures.heard told)

pub returns-in-Ok-clause-right : goal.returns-in-Ok-clause-right
returns-in-Ok-clause-right g c tells told =
    right_unsure (capacity_of c.args.volume.now) (g.P.SectorView.space c.args.space.now).content (g.A.Asker.state c.args.asker.now) (g.A.Asker.state c.ask.new.self) (g.A.Asker.state c.hear.new.self) c.in-Ok-Some.command c.in_ok-reply-in-Ok-Some.reply
    (c.ask.ensures.heard told) (c.in_ok-reply-in-Ok-Some.ensures.reply tells) (c.hear.ensures.unsure (c.ask.ensures.tells ∙ told))

pub returns-in-Err-hear-clause-right : goal.returns-in-Err-hear-clause-right
returns-in-Err-hear-clause-right g c tells told =
    right_unsure (capacity_of c.args.volume.now) (g.P.SectorView.space c.args.space.now).content (g.A.Asker.state c.args.asker.now) (g.A.Asker.state c.ask.new.self) (g.A.Asker.state c.hear.new.self) c.in-Ok-Some.command c.in_ok-reply-in-Ok-Some.reply
    (c.ask.ensures.heard told) (c.in_ok-reply-in-Ok-Some.ensures.reply tells) (c.hear.ensures.unsure (c.ask.ensures.tells ∙ told))

pub returns-in-Ok-None-clause-right : goal.returns-in-Ok-None-clause-right
returns-in-Ok-None-clause-right g c tells told =
    right_none (capacity_of c.args.volume.now) (g.P.SectorView.space c.args.space.now).content (g.A.Asker.state c.args.asker.now) (g.A.Asker.state c.ask.new.self) (c.ask.ensures.heard told)

pub returns-in-Err-clause-right : goal.returns-in-Err-clause-right
returns-in-Err-clause-right g c tells told =
    right_none (capacity_of c.args.volume.now) (g.P.SectorView.space c.args.space.now).content (g.A.Asker.state c.args.asker.now) (g.A.Asker.state c.ask.new.self) (c.ask.ensures.heard told)

pub returns-in-Ok-clause-looked : goal.returns-in-Ok-clause-looked
returns-in-Ok-clause-looked g c = looked_again c.in_ok-reply-in-Ok-Some.ensures.looked

pub returns-in-Err-hear-clause-looked : goal.returns-in-Err-hear-clause-looked
returns-in-Err-hear-clause-looked g c = looked_short c.in_ok-reply-in-Ok-Some.ensures.looked

pub returns-in_err-reply-in-Ok-Some-clause-looked : goal.returns-in_err-reply-in-Ok-Some-clause-looked
returns-in_err-reply-in-Ok-Some-clause-looked g c = looked_fault c.from_residual.ensures.1 c.in_err-reply-in-Ok-Some.ensures.looked

pub returns-in-Ok-None-clause-looked : goal.returns-in-Ok-None-clause-looked
returns-in-Ok-None-clause-looked g c = looked_none g.met.P.SectorView.follows_refl c.requires.serves.stands

pub returns-in-Err-clause-looked : goal.returns-in-Err-clause-looked
returns-in-Err-clause-looked g c = looked_wanting g.met.P.SectorView.follows_refl c.requires.serves.stands
