use Rattle.std.proofs.Common.{◌≡◌, ◌≤◌, IsTrue}
use Rattle.sector_disk.specs.Disk.{SameDisk, SameSink}
use Rattle.jnl_store.specs.InUse.{keeps_lists}
use Rattle.jnl_store.proofs.BroughtHome.{IsComing}
use Rattle.jnl_store.proofs.bringing.bring_newest.Given as goal

abbrev pub invariant-loop-k : goal.invariant-loop-k
invariant-loop-k g l = record {
  same : SameDisk (g.D.SectorDisk.state l.initial.disk) (g.D.SectorDisk.state l.disk);
  sink : SameSink (g.D.SectorDisk.state l.initial.disk) (g.D.SectorDisk.state l.disk);
  barriers : (g.D.SectorDisk.state l.disk).barriers ≡ (g.D.SectorDisk.state l.initial.disk).barriers;
  faults : (g.D.SectorDisk.state l.initial.disk).faults ≤ (g.D.SectorDisk.state l.disk).faults;
  value : IsTrue (g.D.SectorDisk.state l.initial.disk).tells → IsTrue (keeps_lists l.plan (g.D.SectorDisk.state l.initial.disk).candidates l.live.homes)
      → IsComing l.plan l.live.homes l.k (g.D.SectorDisk.state l.initial.disk) (g.D.SectorDisk.state l.disk);
}
