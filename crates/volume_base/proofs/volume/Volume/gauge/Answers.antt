use Rattle.std.proofs.Common.{◌∙◌}
use Rattle.volume_base.proofs.Gauging.{gauge_is}
use Rattle.volume_base.proofs.volume.Volume.gauge.Goals as goal

pub returns-clause-exact : goal.returns-clause-exact
returns-clause-exact c content settled = c.read_gauge.ensures ∙ gauge_is c.args.self.now content settled
