use Rattle.hfs_language.proofs.OneLine.{one_line}
use Rattle.hfs_language.proofs.laws.reply_is_one_line.Goals as goal

pub returns : goal.returns
returns c = one_line c.args.reply.now
