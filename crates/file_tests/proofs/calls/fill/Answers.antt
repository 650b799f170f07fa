use Rattle.std.proofs.Common.{◌/◌, arith, length}
use Rattle.fork_map.specs.Blocks.{blocks_of}
use Rattle.alloc_bitmap.specs.Map.{free_of}
use Rattle.file_io.proofs.PlaceLaws.{free_may_spill}
use Rattle.file_tests.specs.Untold.{told_faults}
use Rattle.file_tests.proofs.calls.fill.Goals as goal

pub zero_step-requires-clause-may_spill : goal.zero_step-requires-clause-may_spill
zero_step-requires-clause-may_spill g c = λ n sector low high is.
    free_may_spill (told_faults (length c.args.space.now.list.items) c.args.space.now.faults) (c.args.block / 512) (free_of c.args.map.now) (blocks_of c.in_ok-picked.picked)
    (omega (arith, (c.is_block_size.ensures c.if-not-is_block_size.false).least)) c.in_ok-picked.ensures.free.each (c.may_spill.ensures c.if-not-may_spill.false) sector (n, is)
