use Rattle.tree_weights.proofs.Weighing.{room_law}
use Rattle.tree_weights.proofs.edits_have_room.Goals as goal

pub returns : goal.returns
returns c = room_law
