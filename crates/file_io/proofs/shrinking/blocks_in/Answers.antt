use Rattle.std.proofs.Common.{List, length, ap, arith}
use Rattle.hx_bytes.specs.declared.extents.Extent.{Extent}
use Rattle.fork_map.specs.Blocks.{blocks_of}
use Rattle.std.proofs.lemmas.List.{drop_all}
use Rattle.fork_map.proofs.Laws.{length_blocks_more}
use Rattle.file_io.proofs.shrinking.blocks_in.Goals as goal

pub loop-extent-preserved : goal.loop-extent-preserved
loop-extent-preserved c = record {
  fits = omega (arith, c.saturating_add-count.ensures);
  sum = omega (arith, length_blocks_more c.args.items.now c.loop-extent.extent-index (record { start = 0; count = 0 }) c.loop-extent-test.true, c.saturating_add-count.ensures, c.loop-extent.invariant.sum);
}

pub returns : goal.returns
returns c = omega (arith, c.loop-extent.invariant.sum, c.loop-extent.invariant.fits, ap (λ (l : List Extent). length (blocks_of l)) (drop_all c.loop-extent.extent-index c.args.items.now (omega (arith, c.loop-extent-test.false))))
