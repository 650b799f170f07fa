use Rattle.hfs_volume.proofs.Symlinks.{symlink_law}
use Rattle.hfs_volume.proofs.laws_kinds.symlink_does_its_step.Goals as goal

pub returns : goal.returns
returns c = symlink_law
