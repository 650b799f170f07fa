use Rattle.volume_repair.proofs.RemountCount.{stays_law}
use Rattle.volume_repair.proofs.laws_remount.repair_stays_remounted.Goals as goal

pub returns : goal.returns
returns c = stays_law c.mount_keeps_the_tree.ensures
