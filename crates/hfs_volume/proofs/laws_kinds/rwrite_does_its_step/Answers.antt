use Rattle.hfs_volume.proofs.Resources.{resource_write_law}
use Rattle.hfs_volume.proofs.laws_kinds.rwrite_does_its_step.Goals as goal

pub returns : goal.returns
returns c = resource_write_law
