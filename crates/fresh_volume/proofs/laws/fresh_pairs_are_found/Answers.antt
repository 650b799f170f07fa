use Rattle.fresh_volume.proofs.Pairs.{has_fresh_pairs}
use Rattle.fresh_volume.proofs.laws.fresh_pairs_are_found.Goals as goal

pub returns : goal.returns
returns c sectors block journal name old new can named made = has_fresh_pairs sectors block journal name old new can named made
