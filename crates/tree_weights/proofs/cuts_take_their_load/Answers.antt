use Rattle.tree_weights.proofs.CutLaws.{cut_takes_law}
use Rattle.tree_weights.proofs.cuts_take_their_load.Goals as goal

pub returns : goal.returns
returns c = cut_takes_law
