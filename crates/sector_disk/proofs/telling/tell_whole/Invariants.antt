use Rattle.std.proofs.Common.{length, ◌-◌}
use Rattle.sector_disk.proofs.Told.{ToldSo}
use Rattle.sector_disk.proofs.telling.tell_whole.Given as goal

abbrev pub invariant-loop-at : goal.invariant-loop-at
invariant-loop-at g l = ToldSo (g.R.SectorDisk.state l.initial.rig) l.bytes l.at (g.R.SectorDisk.state l.rig)

abbrev pub decreases-loop-at : goal.decreases-loop-at
decreases-loop-at g l = length l.bytes - l.at
