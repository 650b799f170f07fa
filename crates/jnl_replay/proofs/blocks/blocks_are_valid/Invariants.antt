use Rattle.std.proofs.Common.{◌≡◌, ◌≤◌, ◌+◌, ◌-◌, ◌*◌, IsTrue}
use Rattle.sector_disk.specs.Disk.{content}
use Rattle.sector_disk.specs.Disk.{OnlyReads}
use Rattle.jnl_replay.specs.Text.{words}
use Rattle.jnl_replay.proofs.Filling.{filled}
use Rattle.jnl_replay.proofs.blocks.blocks_are_valid.Given as goal

abbrev pub invariant-loop-entry : goal.invariant-loop-entry
invariant-loop-entry g l = record {
  reads : OnlyReads (g.D.SectorDisk.state l.initial.disk) (g.D.SectorDisk.state l.disk);
  place : l.place ≡ l.at + 16 * l._entry;
  from : l.from ≤ l.end;
  value : IsTrue (g.D.SectorDisk.state l.initial.disk).tells → filled l.volume l.text.order (words l.text (content (g.D.SectorDisk.state l.initial.disk))) l.end l.at l.body l.count
      ≡ filled l.volume l.text.order (words l.text (content (g.D.SectorDisk.state l.initial.disk))) l.end l.place l.from (l.count - l._entry);
}
