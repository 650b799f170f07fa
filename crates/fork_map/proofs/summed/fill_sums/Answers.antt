use Rattle.std.proofs.Common.{◌∙◌, arith}
use Rattle.std.proofs.lemmas.List.{length-set}
use Rattle.fork_map.proofs.KeptBlocks.{blocks_more}
use Rattle.fork_map.proofs.SumLaws.{sums_more}
use Rattle.fork_map.proofs.summed.fill_sums.Goals as goal

pub loop-at-preserved : goal.loop-at-preserved
loop-at-preserved c =
    let at = c.loop-at.at in
    let extents = c.args.extents.now in
    let was = c.loop-at.invariant in
    record {
      long = length-set c.loop-at.sums at c.loop-at.sum ∙ was.long;
      done = sums_more extents c.loop-at.sums at c.loop-at.sum (omega arith) was.done was.sum;
      sum = omega (arith, was.sum, blocks_more extents at (record { start = 0; count = 0 }) (omega arith));
      small = omega (arith, was.small);
    }
