use Rattle.std.proofs.Common.{◌<◌, ◌≤◌, ◌*◌, arith, ⊎_elim}
use Rattle.std.proofs.lemmas.Bool.{cases_lt}
use Rattle.fsck_scan.proofs.ZeroBits.{no_node}
use Rattle.fsck_scan.proofs.scan.bytes_for_nodes.Goals as goal

pub loop-count-preserved : goal.loop-count-preserved
loop-count-preserved c = record {
  inside = omega (arith, c.loop-count.invariant.inside);
  rest = λ n from to. ⊎_elim
      (λ (here : n < 8 * c.loop-count.count). no_node c.args.bits.now c.args.marks.now c.loop-count.count n c.if-bits-count-ne0.false (omega (arith, c.if-count-nodes.false, c.len-nodes.ensures)) (omega (arith, from)) here)
      (λ (behind : 8 * c.loop-count.count ≤ n). c.loop-count.invariant.rest n behind to)
      (cases_lt n (8 * c.loop-count.count));
}
