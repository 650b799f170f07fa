use Rattle.tree_weights.proofs.CutLaws.{cut_says_law}
use Rattle.tree_weights.proofs.a_cut_load_says_enough.Goals as goal

pub returns : goal.returns
returns c = cut_says_law
