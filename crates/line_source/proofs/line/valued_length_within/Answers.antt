use Rattle.std.proofs.Common.{arith}
use Rattle.line_source.proofs.Texts.{valued_short}
use Rattle.line_source.proofs.line.valued_length_within.Goals as goal

pub returns : goal.returns
returns c = (valued_short c.args.head.now c.args.value.now, omega (arith, c.if-head-room.false, c.if-value-left.false))
