use Rattle.cmd_lang.proofs.Lengths.{too_long_value}
use Rattle.cmd_lang.proofs.valued.is_too_long.Goals as goal

pub returns-then-value-gt-MOST_BYTES : goal.returns-then-value-gt-MOST_BYTES
returns-then-value-gt-MOST_BYTES c = too_long_value c.args.head.now c.args.value.now c.if-value-gt-MOST_BYTES.true
