use Rattle.fresh_volume.proofs.FreshTree.{has_fresh_tree}
use Rattle.fresh_volume.proofs.laws.fresh_tree_is_found.Goals as goal

pub returns : goal.returns
returns c sectors block journal name old new can named units made = has_fresh_tree sectors block journal name old new can named units made
