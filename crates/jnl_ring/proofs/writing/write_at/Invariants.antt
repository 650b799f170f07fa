use Rattle.std.proofs.Common.{◌≡◌, ◌<◌, ℕ, length}
use Rattle.sector_disk.specs.Lists.{sector}
use Rattle.jnl_ring.proofs.Written.{WroteSo}
use Rattle.jnl_ring.proofs.writing.write_at.Given as goal

-- the sectors so far are written, and whole
abbrev pub invariant-loop-k : goal.invariant-loop-k
invariant-loop-k g l = record {
  wrote : WroteSo l.span l.at (g.L.SectorList.sectors l.from) (g.D.SectorDisk.state l.initial.disk) l.k (g.D.SectorDisk.state l.disk);
  whole : (j : ℕ) → j < l.k → length (sector (g.L.SectorList.sectors l.from) j) ≡ 512;
}
