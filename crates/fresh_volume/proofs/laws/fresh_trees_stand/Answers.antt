use Rattle.fresh_volume.proofs.Standing.{trees_stand}
use Rattle.fresh_volume.proofs.laws.fresh_trees_stand.Goals as goal

pub returns : goal.returns
returns c sectors block journal name old new can named made = trees_stand sectors block journal name old new can named made
