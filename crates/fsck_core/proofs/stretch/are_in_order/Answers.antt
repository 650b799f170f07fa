use Rattle.std.proofs.Common.{arith}
use Rattle.std.proofs.lemmas.List.Sorted.{IsNonDecreasingBy-from_all_adjacent}
use Rattle.fsck_core.specs.declared.overflow.OverflowRow.{OverflowRow}
use Rattle.fsck_core.proofs.StretchLaws.{order_more}
use Rattle.fsck_core.proofs.stretch.are_in_order.Goals as goal

pub loop-at-preserved : goal.loop-at-preserved
loop-at-preserved c = record {
  low = omega arith;
  rises = order_more c.args.rows.now c.loop-at.at c.loop-at.invariant.low c.loop-at-test.true c.loop-at.invariant.rises c.if-rows-at.false;
}

pub returns : goal.returns
returns c yes_order = IsNonDecreasingBy-from_all_adjacent (λ (r : OverflowRow). r.id) c.args.rows.now (λ k d less. c.loop-at.invariant.rises k d (omega (arith, less, c.loop-at-test.false)))
