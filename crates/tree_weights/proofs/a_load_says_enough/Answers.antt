use Rattle.tree_weights.proofs.Weighing.{says_law}
use Rattle.tree_weights.proofs.a_load_says_enough.Goals as goal

pub returns : goal.returns
returns c = says_law
