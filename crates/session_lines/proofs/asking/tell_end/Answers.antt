use Rattle.session_lines.proofs.AskedLines.{says_end}
use Rattle.session_lines.proofs.asking.tell_end.Goals as goal

pub returns-in-Says-clause-told : goal.returns-in-Says-clause-told
returns-in-Says-clause-told c = (_, says_end c.args.session c.args.table.now c.args.end c.in-Says.reply c.in-Says.is c.in_ok-tell-in-Says.field-0, c.in_ok-tell-in-Says.ensures.told)
