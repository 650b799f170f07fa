use Rattle.std.proofs.Common.{ℕ, List, length}
use Rattle.sector_disk.proofs.PutLaws.{PutSoFar}
use Rattle.sector_disk.proofs.putting.put_list.Given as goal

abbrev pub invariant-loop-at : goal.invariant-loop-at
invariant-loop-at g l = record {
  so_far : PutSoFar (g.L.SectorsToPut.places l.initial.list) (g.L.SectorsToPut.places l.list) (g.L.SectorsToPut.belongs l.initial.list) (g.P.SectorView.space l.initial.space) (g.P.SectorView.space l.space);
  kept : (at : ℕ) (bytes : List ℕ) → g.L.SectorsToPut.belongs l.list at bytes → g.L.SectorsToPut.belongs l.initial.list at bytes;
  below : g.P.SectorView.follows l.initial.space l.space;
}

abbrev pub decreases-loop-at : goal.decreases-loop-at
decreases-loop-at g l = length (g.L.SectorsToPut.places l.list)
