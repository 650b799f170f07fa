use Rattle.tree_weights.proofs.Weighing.{weight_law}
use Rattle.tree_weights.proofs.a_weight_says_enough.Goals as goal

pub returns : goal.returns
returns c = weight_law
