use Rattle.hfs_language.proofs.Shown.{refusal_shown}
use Rattle.hfs_language.proofs.laws.refusal_is_shown.Goals as goal

pub returns : goal.returns
returns c = refusal_shown c.args.one c.args.other
