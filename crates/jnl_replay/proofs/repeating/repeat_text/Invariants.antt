use Rattle.std.proofs.Common.{◌≡◌, ◌≤◌, IsTrue}
use Rattle.sector_disk.specs.Disk.{SameDisk, SameSink}
use Rattle.jnl_replay.specs.Repeating.{Repeats, repeat_ring}
use Rattle.jnl_replay.proofs.repeating.repeat_text.Given as goal

abbrev pub invariant-loop-k : goal.invariant-loop-k
invariant-loop-k g l = record {
  written : IsTrue (g.D.SectorDisk.state l.initial.disk).tells → (g.D.SectorDisk.state l.disk).candidates ≡ repeat_ring (g.D.SectorDisk.state l.initial.disk).candidates l.text.span l.text.start l.k;
  repeats : IsTrue (g.D.SectorDisk.state l.initial.disk).tells → Repeats (g.D.SectorDisk.state l.initial.disk) (g.D.SectorDisk.state l.disk);
  barriers : (g.D.SectorDisk.state l.disk).barriers ≡ (g.D.SectorDisk.state l.initial.disk).barriers;
  same : SameDisk (g.D.SectorDisk.state l.initial.disk) (g.D.SectorDisk.state l.disk);
  sink : SameSink (g.D.SectorDisk.state l.initial.disk) (g.D.SectorDisk.state l.disk);
  faults : (g.D.SectorDisk.state l.initial.disk).faults ≤ (g.D.SectorDisk.state l.disk).faults;
}
