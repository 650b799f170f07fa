use Rattle.hfs_volume.proofs.laws_aside.free_is_filled.Goals as goal
use Rattle.hfs_volume.proofs.Filling.{free_is_filled}

pub returns : goal.returns
returns c = free_is_filled
