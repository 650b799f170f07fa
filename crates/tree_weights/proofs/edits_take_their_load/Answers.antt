use Rattle.tree_weights.proofs.Weighing.{load_law}
use Rattle.tree_weights.proofs.edits_take_their_load.Goals as goal

pub returns : goal.returns
returns c = load_law
