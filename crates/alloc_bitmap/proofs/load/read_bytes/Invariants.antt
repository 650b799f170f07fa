use Rattle.std.proofs.Common.{◌≡◌, ◌≤◌, ◌<◌, ◌*◌, ℕ, IsTrue, length}
use Rattle.sector_disk.specs.Clock.{TimePasses}
use Rattle.sector_disk.specs.Space.{SameSpace, SameRoom, SameSectors, LeavesDurable}
use Rattle.flag_rows.specs.Bits.{bit_of}
use Rattle.alloc_bitmap.specs.Fork.{fork_bit}
use Rattle.fork_map.specs.Blocks.{fork_sectors}
use Rattle.alloc_bitmap.proofs.load.read_bytes.Given as goal

abbrev pub invariant-loop-at : goal.invariant-loop-at
invariant-loop-at g l = record {
  size : length l.bytes.items ≡ l.at * 512;
  bits : IsTrue (g.V.SectorView.space l.fn.view).tells → (k : ℕ) → k < l.at * 4096 → bit_of l.bytes.items k ≡ fork_bit (g.V.SectorView.space l.fn.view).content (fork_sectors l.fork l.per_block) k;
  sectors : IsTrue (g.V.SectorView.space l.fn.view).tells → SameSectors (g.V.SectorView.space l.fn.view) (g.V.SectorView.space l.view);
  time : IsTrue (g.V.SectorView.space l.fn.view).tells → TimePasses (g.V.SectorView.space l.fn.view).clock (g.V.SectorView.space l.view).clock (LeavesDurable (g.V.SectorView.space l.view));
  room : SameRoom (g.V.SectorView.space l.fn.view) (g.V.SectorView.space l.view);
  same : SameSpace (g.V.SectorView.space l.fn.view) (g.V.SectorView.space l.view);
  below : g.V.SectorView.follows l.fn.view l.view;
  later : (g.V.SectorView.space l.fn.view).faults ≤ (g.V.SectorView.space l.view).faults;
}
