use Rattle.std.proofs.Common.{inl}
use Rattle.session_lines.proofs.AskedOnce.{hears_told}
use Rattle.session_lines.proofs.taken.KeepersAsker.hear.Goals as goal

pub returns-clause-hears : goal.returns-clause-hears
returns-clause-hears c told = hears_told c.args.self.now.heard.items c.push.new.self.items c.args.self.now.waiting c.args.command c.args.reply c.if-not-self.false c.in_ok-push.ensures.items

pub returns-clause-unsure : goal.returns-clause-unsure
returns-clause-unsure c told = inl (hears_told c.args.self.now.heard.items c.push.new.self.items c.args.self.now.waiting c.args.command c.args.reply c.if-not-self.false c.in_ok-push.ensures.items)
