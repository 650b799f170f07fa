use Rattle.std.proofs.Common.{◌≡◌, ◌≤◌, ◌+◌, ◌-◌, ℕ, IsTrue, length}
use Rattle.sector_disk.specs.Disk.{content}
use Rattle.jnl_format.specs.Text.{bad_list_as}
use Rattle.sector_disk.specs.Disk.{OnlyReads}
use Rattle.jnl_replay.specs.Text.{words}
use Rattle.jnl_replay.proofs.lists.walk_lists.Given as goal

abbrev pub invariant-loop-at : goal.invariant-loop-at
invariant-loop-at g l = record {
  reads : OnlyReads (g.D.SectorDisk.state l.initial.disk) (g.D.SectorDisk.state l.disk);
  inside : l.at ≤ l.text.length;
  value : IsTrue (g.D.SectorDisk.state l.initial.disk).tells → (n : ℕ) × (length (words l.text (content (g.D.SectorDisk.state l.initial.disk))) ≤ l.at + n)
      × (bad_list_as l.dialect l.volume l.text.order l.text.blhdr (words l.text (content (g.D.SectorDisk.state l.initial.disk))) (length (words l.text (content (g.D.SectorDisk.state l.initial.disk)))) 0
      ≡ bad_list_as l.dialect l.volume l.text.order l.text.blhdr (words l.text (content (g.D.SectorDisk.state l.initial.disk))) n l.at);
}

abbrev pub decreases-loop-at : goal.decreases-loop-at
decreases-loop-at g l = l.text.length - l.at
