use Rattle.tree_weights.proofs.CutLaws.{hold_three_law}
use Rattle.tree_weights.proofs.trees_hold_three.Goals as goal

pub returns : goal.returns
returns c = hold_three_law
