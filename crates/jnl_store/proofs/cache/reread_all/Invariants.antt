use Rattle.std.proofs.Common.{◌≡◌, ℕ, ◌<◌, ◌≤◌, [], get_or}
use Rattle.std.specs.Prelude.{IsTrue, None}
use Rattle.sector_disk.specs.Disk.{OnlyReads, content}
use Rattle.jnl_store.specs.Cache.{AreSlots, IsRead, IsReread, slot_with}
use Rattle.jnl_store.proofs.cache.reread_all.Given as goal

abbrev pub invariant-loop-i : goal.invariant-loop-i
invariant-loop-i g l = record {
  are : AreSlots l.names l.bytes;
  done : (k : ℕ) → k < l.i → IsReread l.plan (slot_with (get_or l.names k None) (get_or l.initial.bytes k [])) (slot_with (get_or l.names k None) (get_or l.bytes k []));
  left : (k : ℕ) → l.i ≤ k → get_or l.bytes k [] ≡ get_or l.initial.bytes k [];
  own : IsTrue (g.D.SectorDisk.state l.initial.disk).tells → (k : ℕ) → k < l.i → IsRead l.plan (content (g.D.SectorDisk.state l.initial.disk)) (slot_with (get_or l.names k None) (get_or l.bytes k []));
  reads : OnlyReads (g.D.SectorDisk.state l.initial.disk) (g.D.SectorDisk.state l.disk);
}
