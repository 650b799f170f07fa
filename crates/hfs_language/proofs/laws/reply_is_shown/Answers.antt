use Rattle.hfs_language.proofs.Replies.{reply_shown}
use Rattle.hfs_language.proofs.laws.reply_is_shown.Goals as goal

pub returns : goal.returns
returns c = reply_shown c.args.one.now c.args.other.now
