use Rattle.volume_names.proofs.Mounted.{unmounted_fits}
use Rattle.volume_names.proofs.mounting.unmounted.Goals as goal

pub returns-clause-fits : goal.returns-clause-fits
returns-clause-fits c was = unmounted_fits c.args.head.now was
