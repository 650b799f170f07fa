use Rattle.std.proofs.Common.{◌≡◌, ◌≤◌, ◌-◌, List, IsTrue}
use Rattle.sector_disk.specs.Disk.{content, SameDisk, SameSink}
use Rattle.jnl_format.specs.declared.blocks.Home.{Home}
use Rattle.jnl_format.specs.declared.blocks.Volume.{Volume}
use Rattle.jnl_replay.specs.Homing.{AreHomesOf}
use Rattle.jnl_replay.specs.Pending.{IsCursor}
use Rattle.jnl_replay.specs.Text.{words}
use Rattle.jnl_replay.proofs.Homed.{Homed}
use Rattle.jnl_replay.proofs.homing.write_each.Given as goal

abbrev pub invariant-loop-home : goal.invariant-loop-home
invariant-loop-home g l = record {
  same : SameDisk (g.D.SectorDisk.state l.initial.disk) (g.D.SectorDisk.state l.disk);
  sink : SameSink (g.D.SectorDisk.state l.initial.disk) (g.D.SectorDisk.state l.disk);
  barriers : (g.D.SectorDisk.state l.disk).barriers ≡ (g.D.SectorDisk.state l.initial.disk).barriers;
  faults : (g.D.SectorDisk.state l.initial.disk).faults ≤ (g.D.SectorDisk.state l.disk).faults;
  cursor : IsCursor l.homes;
  text : l.homes.text ≡ l.text;
  sectors : l.homes.sectors ≡ (g.D.SectorDisk.state l.initial.disk).sectors;
  value : IsTrue (g.D.SectorDisk.state l.initial.disk).tells → (volume : Volume) (homes : List Home)
      → AreHomesOf (g.D.SectorDisk.state l.initial.disk).sectors l.text (words l.text (content (g.D.SectorDisk.state l.initial.disk))) volume homes
      → Homed volume (words l.text (content (g.D.SectorDisk.state l.initial.disk))) l.homes homes (g.D.SectorDisk.state l.initial.disk) (g.D.SectorDisk.state l.disk);
}

abbrev pub decreases-loop-home : goal.decreases-loop-home
decreases-loop-home g l = l.text.length - l.homes.reached
