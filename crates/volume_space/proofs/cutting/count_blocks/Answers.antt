use Rattle.std.proofs.Common.{arith}
use Rattle.fork_map.proofs.Laws.{length_blocks_more}
use Rattle.volume_space.proofs.cutting.count_blocks.Goals as goal

pub loop-extent-preserved : goal.loop-extent-preserved
loop-extent-preserved c =
    let next = length_blocks_more c.args.extents.now c.loop-extent.extent-index (record { start = 0; count = 0 }) c.loop-extent-test.true in
    record { small = omega arith; rest = omega arith }
