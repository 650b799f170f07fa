use Rattle.hx_bytes.specs.declared.fields.Order.TheVariants.{Big}
use Rattle.hx_bytes.proofs.Putting.{number_bytes-low_4}
use Rattle.fsck_repair.proofs.words.low_word.Goals as goal

pub returns : goal.returns
returns c = number_bytes-low_4 Big c.args.number
