use Rattle.std.proofs.Common.{arith}
use Rattle.volume_cost.proofs.GrowthLaws.{maps_few}
use Rattle.volume_cost.proofs.room.growth_writes.Goals as goal

pub overflow_add-result : goal.overflow_add-result
overflow_add-result c = omega (arith, c.count_maps.ensures, maps_few c.args.tree.now c.args.more c.requires.size, c.requires.small)

pub returns-clause-bound : goal.returns-clause-bound
returns-clause-bound c = omega (arith, c.count_maps.ensures, maps_few c.args.tree.now c.args.more c.requires.size, c.requires.small)
