use Rattle.std.proofs.Common.{◌<◌, ◌+◌, ◌-◌, ◌/◌, ℕ, List, length, arith}
use Rattle.btree_node.specs.Levels.{Pair}
use Rattle.fsck_core.proofs.ThreadLaws.{split_more, split_less, parent_at, key_long}
use Rattle.fsck_core.proofs.threads.pairs_below.Goals as goal

pub loop-low-preserved-then-parent_of-parent : goal.loop-low-preserved-then-parent_of-parent
loop-low-preserved-then-parent_of-parent c =
    let pairs : List Pair = c.args.pairs.now in
    let mid : ℕ = c.loop-low.low + (c.loop-low.high - c.loop-low.low) / 2 in
    let inside : mid < length pairs = omega (arith, c.loop-low-test.true, c.loop-low.invariant.within) in
    record {
      order = omega (arith, c.loop-low-test.true);
      within = c.loop-low.invariant.within;
      below = λ catalog k less within.
          let is = parent_at pairs mid c.parent_of.result c.key.result.now c.key.ensures (c.parent_of.ensures (key_long pairs mid c.key.result.now catalog inside c.key.ensures)) in
          split_more pairs c.args.parent c.loop-low.low mid catalog.order inside (omega (arith, is, c.if-parent_of-parent.true)) k less within;
      rest = c.loop-low.invariant.rest;
    }

pub loop-low-preserved : goal.loop-low-preserved
loop-low-preserved c =
    let pairs : List Pair = c.args.pairs.now in
    let mid : ℕ = c.loop-low.low + (c.loop-low.high - c.loop-low.low) / 2 in
    let inside : mid < length pairs = omega (arith, c.loop-low-test.true, c.loop-low.invariant.within) in
    record {
      order = omega (arith, c.loop-low-test.true);
      within = omega (arith, inside);
      below = c.loop-low.invariant.below;
      rest = λ catalog k above within.
          let is = parent_at pairs mid c.parent_of.result c.key.result.now c.key.ensures (c.parent_of.ensures (key_long pairs mid c.key.result.now catalog inside c.key.ensures)) in
          split_less pairs c.args.parent mid catalog.order (omega (arith, is, c.if-parent_of-parent.false)) k above within;
    }
