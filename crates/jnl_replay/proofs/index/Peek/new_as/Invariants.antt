use Rattle.std.proofs.Common.{◌≡◌, ◌≤◌, ◌+◌, ◌-◌, ℕ, List, IsTrue}
use Rattle.std.specs.Prelude.{Some}
use Rattle.sector_disk.specs.Disk.{content}
use Rattle.jnl_format.specs.declared.blocks.Home.{Home}
use Rattle.jnl_format.specs.declared.blocks.Volume.{Volume}
use Rattle.jnl_replay.specs.Homing.{AreHomesOf}
use Rattle.jnl_replay.specs.Pending.{IsCursor}
use Rattle.sector_disk.specs.Disk.{OnlyReads}
use Rattle.jnl_replay.specs.Runs.{place_in_both, AreWhole}
use Rattle.jnl_replay.specs.Text.{words}
use Rattle.jnl_replay.proofs.Peeks.{Indexed}
use Rattle.jnl_replay.proofs.index.Peek.new_as.Given as goal

abbrev pub invariant-loop-runs : goal.invariant-loop-runs
invariant-loop-runs g l = record {
  reads : OnlyReads (g.D.SectorDisk.state l.initial.disk) (g.D.SectorDisk.state l.disk);
  cursor : IsCursor l.homes;
  text : l.homes.text ≡ l.text;
  few : l.homes.sectors ≤ 2147483648;
  placed : (at place : ℕ) → place_in_both l.index l.runs.items at ≡ Some place → place + 512 ≤ l.text.length;
  whole : AreWhole l.runs.items;
  value : IsTrue (g.D.SectorDisk.state l.initial.disk).tells → (volume : Volume) (homes : List Home)
      → AreHomesOf (g.D.SectorDisk.state l.initial.disk).sectors l.text (words l.text (content (g.D.SectorDisk.state l.initial.disk))) volume homes
      → Indexed volume (words l.text (content (g.D.SectorDisk.state l.initial.disk))) l.homes homes (place_in_both l.index l.runs.items);
}

abbrev pub decreases-loop-runs : goal.decreases-loop-runs
decreases-loop-runs g l = l.text.length - l.homes.reached
