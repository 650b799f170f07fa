use Rattle.std.proofs.Common.{arith}
use Rattle.fsck_core.proofs.behind.is_whole.Goals as goal

pub returns : goal.returns
returns c whole = record {
  begins = c.if-at-front.false;
  ends = c.if-upto-front.false;
  first = omega (arith, c.if-at-div_ceil.false, c.div_ceil.ensures);
  last = omega (arith, c.if-upto-size.false);
}
