use Rattle.hfs_language.proofs.Answering.{answered}
use Rattle.hfs_language.proofs.laws.newlines_count_the_answered.Goals as goal

pub returns : goal.returns
returns c = answered c.args.replies.now c.args.told.now
