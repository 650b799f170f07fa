use Rattle.hfs_volume.proofs.SettingFork.{set_fork_law}
use Rattle.hfs_volume.proofs.laws_attributes.setattr_of_a_long_value_does_its_step.Goals as goal

pub returns : goal.returns
returns c = set_fork_law
