use Rattle.volume_base.proofs.Marked.{marks_fit}
use Rattle.volume_values.proofs.marking.marked_fields.Goals as goal

pub returns-clause-fits : goal.returns-clause-fits
returns-clause-fits c was = marks_fit c.args.has c.with_attribute_flag.result c.args.moment c.args.fields.now c.with_attribute_flag.ensures c.ranges.moment.fits was
