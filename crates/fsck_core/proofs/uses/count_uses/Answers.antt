use Rattle.std.proofs.Common.{◌+◌, List, sym, ◌∙◌, ap, arith}
use Rattle.std.proofs.lemmas.List.{take_all}
use Rattle.hx_bytes.specs.declared.extents.Extent.{Extent}
use Rattle.hfs_volume.specs.Broken.{bit}
use Rattle.fork_map.specs.Blocks.{blocks_of}
use Rattle.alloc_bitmap.specs.Apart.{times}
use Rattle.fsck_core.proofs.UseLaws.{count_one}
use Rattle.fsck_core.proofs.uses.count_uses.Goals as goal

no_extent : Extent
no_extent = record { start = 0; count = 0 }

pub loop-extent-preserved : goal.loop-extent-preserved
unfolding no_extent
loop-extent-preserved c = record {
  count = (λ i. c.loop-extent.invariant.count i + (c.bit-one.ensures.value ∙ ap bit c.has_block.ensures) i) ∙ sym (count_one c.args.extents.now c.loop-extent.extent-index no_extent c.args.block c.loop-extent-test.true);
  few = omega (arith, c.loop-extent.invariant.few, c.bit-one.ensures.few);
}

pub returns : goal.returns
returns c = c.loop-extent.invariant.count ∙ ap (λ (l : List Extent). times c.args.block (blocks_of l)) (take_all c.loop-extent.extent-index c.args.extents.now (omega (arith, c.loop-extent-test.false)))
