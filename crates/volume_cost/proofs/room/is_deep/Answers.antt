use Rattle.std.proofs.Common.{◌≤◌, ◌*◌, subst, arith}
use Rattle.hfs_volume.specs.declared.cost.TreeCost.{TreeCost}
use Rattle.hfs_volume.specs.Cost.{need}
use Rattle.volume_cost.proofs.RoomLaws.{need_few}
use Rattle.volume_cost.proofs.room.is_deep.Goals as goal

pub returns-clause-need : goal.returns-clause-need
returns-clause-need c = λ is. subst (λ (t : TreeCost). need c.args.key t c.args.edits ≤ 12 * c.args.edits) c.tree_in-tree.ensures
    (need_few c.args.key c.tree_in-tree.result c.args.edits (omega (arith, c.counted_depth-depth.ensures, c.count_rises-rises.ensures, c.if-depth-rises-gt11.false)))
