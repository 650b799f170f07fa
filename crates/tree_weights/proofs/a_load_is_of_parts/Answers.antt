use Rattle.tree_weights.proofs.Weighing.{parts_law}
use Rattle.tree_weights.proofs.a_load_is_of_parts.Goals as goal

pub returns : goal.returns
returns c = parts_law
