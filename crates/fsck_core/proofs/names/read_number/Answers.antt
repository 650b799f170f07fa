use Rattle.std.proofs.Common.{◌+◌, min, ◌∙◌, arith}
use Rattle.fsck_core.proofs.NameLaws.{digit_more, number_read}
use Rattle.fsck_core.proofs.names.read_number.Goals as goal

pub loop-digit-preserved : goal.loop-digit-preserved
loop-digit-preserved c = record {
  value = λ number small is. digit_more c.args.digits.now number c.loop-digit.digit-index c.from.result c.loop-digit.number c.saturating_add-number.result small is c.loop-digit-test.true c.from.ensures (c.loop-digit.invariant.value number small is)
      (c.saturating_add-number.ensures ∙ (λ i. min (c.saturating_mul.ensures i + c.saturating_sub.ensures i) 4294967295));
}

pub returns : goal.returns
returns c number small is = number_read c.args.digits.now number c.loop-digit.digit-index c.loop-digit.number small is (omega (arith, c.loop-digit-test.false)) (c.loop-digit.invariant.value number small is)
