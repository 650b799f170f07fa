use Rattle.tree_weights.proofs.Weighing.{grows_law}
use Rattle.tree_weights.proofs.trees_grow_by_enough.Goals as goal

pub returns : goal.returns
returns c = grows_law
