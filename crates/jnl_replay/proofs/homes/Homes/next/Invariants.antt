use Rattle.std.proofs.Common.{◌≡◌, List, IsTrue}
use Rattle.sector_disk.specs.Disk.{content}
use Rattle.jnl_format.specs.declared.blocks.Home.{Home}
use Rattle.jnl_format.specs.declared.blocks.Volume.{Volume}
use Rattle.jnl_replay.specs.Pending.{IsCursor, Pending, work_left}
use Rattle.sector_disk.specs.Disk.{OnlyReads}
use Rattle.jnl_replay.specs.Text.{words}
use Rattle.jnl_replay.proofs.homes.Homes.next.Given as goal

abbrev pub invariant-loop-self : goal.invariant-loop-self
invariant-loop-self g l = record {
  reads : OnlyReads (g.D.SectorDisk.state l.initial.disk) (g.D.SectorDisk.state l.disk);
  cursor : IsCursor l.self;
  text : l.self.text ≡ l.initial.self.text;
  sectors : l.self.sectors ≡ l.initial.self.sectors;
  reached : l.self.reached ≡ l.initial.self.reached;
  value : IsTrue (g.D.SectorDisk.state l.initial.disk).tells → (volume : Volume) (homes : List Home) → Pending volume (words l.initial.self.text (content (g.D.SectorDisk.state l.initial.disk))) l.initial.self homes
      → Pending volume (words l.initial.self.text (content (g.D.SectorDisk.state l.initial.disk))) l.self homes;
}

abbrev pub decreases-loop-self : goal.decreases-loop-self
decreases-loop-self g l = work_left l.self
