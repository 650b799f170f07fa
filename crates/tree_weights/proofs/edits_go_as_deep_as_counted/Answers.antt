use Rattle.tree_weights.proofs.Weighing.{as_deep_law}
use Rattle.tree_weights.proofs.edits_go_as_deep_as_counted.Goals as goal

pub returns : goal.returns
returns c = as_deep_law
