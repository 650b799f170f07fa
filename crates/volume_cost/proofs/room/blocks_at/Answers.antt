use Rattle.std.proofs.Common.{◌≤◌, subst, sym}
use Rattle.hfs_volume.specs.declared.cost.TreeCost.{TreeCost}
use Rattle.volume_cost.proofs.RoomLaws.{blocks_few}
use Rattle.volume_cost.proofs.room.blocks_at.Goals as goal

pub returns-clause-bound : goal.returns-clause-bound
returns-clause-bound c = blocks_few c.args.room.now.block c.tree_in.result.node_size c.args.more c.requires.block (λ some. subst (λ (t : TreeCost). t.node_size ≤ 32768) (sym c.tree_in.ensures) (c.requires.size some))
