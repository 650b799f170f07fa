use Rattle.tree_weights.proofs.Weighing.{commands_law}
use Rattle.tree_weights.proofs.commands_have_room.Goals as goal

pub returns : goal.returns
returns c = commands_law
