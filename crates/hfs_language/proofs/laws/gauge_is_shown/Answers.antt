use Rattle.hfs_language.proofs.Shown.{gauge_shown}
use Rattle.hfs_language.proofs.laws.gauge_is_shown.Goals as goal

pub returns : goal.returns
returns c = gauge_shown c.args.one c.args.other
