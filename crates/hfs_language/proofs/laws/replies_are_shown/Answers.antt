use Rattle.hfs_language.proofs.Replies.{replies_shown}
use Rattle.hfs_language.proofs.laws.replies_are_shown.Goals as goal

pub returns : goal.returns
returns c = replies_shown c.args.these.now c.args.others.now
