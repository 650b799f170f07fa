use Rattle.volume_names.proofs.Mounted.{mounted_fits}
use Rattle.volume_names.proofs.mounting.mounted.Goals as goal

pub returns-clause-fits : goal.returns-clause-fits
returns-clause-fits c was = mounted_fits c.args.head.now was
