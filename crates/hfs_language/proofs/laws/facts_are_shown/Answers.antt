use Rattle.hfs_language.proofs.Shown.{facts_shown}
use Rattle.hfs_language.proofs.laws.facts_are_shown.Goals as goal

pub returns : goal.returns
returns c = facts_shown c.args.one c.args.other
