use Rattle.tree_weights.proofs.CutLaws.{cut_room_law}
use Rattle.tree_weights.proofs.cuts_have_room.Goals as goal

pub returns : goal.returns
returns c = cut_room_law
