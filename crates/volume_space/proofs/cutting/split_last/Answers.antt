use Rattle.std.proofs.Common.{arith}
use Rattle.volume_space.proofs.CutCalls.{is_split}
use Rattle.volume_space.proofs.cutting.split_last.Goals as goal

pub get-goes-requires : goal.get-goes-requires
get-goes-requires c = omega (arith, c.is_one.ensures c.if-not-is_one.false)

pub returns : goal.returns
returns c = record { split = is_split c.args.count c.args.list.now c.in_ok-stays.stays c.in_ok-stays.rest c.get-goes.result c.in_ok-stays.ensures.extents.0 c.in_ok-stays.ensures.blocks.0 c.in_ok-stays.ensures.blocks.1 (c.is_one.ensures c.if-not-is_one.false) c.get-goes.ensures (c.has_block.ensures c.if-not-has_block.false) }
