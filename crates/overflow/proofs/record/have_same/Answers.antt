use Rattle.overflow.proofs.Cutting.{same_lengths}
use Rattle.overflow.proofs.record.have_same.Goals as goal

pub returns-then-one-other : goal.returns-then-one-other
returns-then-one-other c = same_lengths c.args.one.now c.args.other.now c.if-one-other.true
