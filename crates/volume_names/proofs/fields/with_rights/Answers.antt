use Rattle.volume_names.proofs.Righting.{rights_fit}
use Rattle.volume_names.proofs.fields.with_rights.Goals as goal

pub returns-clause-fits : goal.returns-clause-fits
returns-clause-fits c was = rights_fit c.kind_bits.result c.args.moment c.args.rights c.args.fields.now c.kind_bits.ensures.most c.ranges.moment.fits was
