use Rattle.std.proofs.Common.{◌≡◌, ◌<◌, ◌+◌, ◌*◌, ◌/◌, ℕ, IsTrue, length, drop, slice_get}
use Rattle.fork_map.specs.Blocks.{fork_sectors}
use Rattle.fsck_scan.specs.Read.{IsWhole}
use Rattle.fsck_scan.proofs.Pieces.{Reads}
use Rattle.fsck_scan.proofs.fork.read_node.Given as goal

abbrev pub invariant-loop-k : goal.invariant-loop-k
invariant-loop-k g l = record {
  per : l.per ≡ length l.fn.into / 512;
  so_far : Reads (g.V.SectorView.space l.fn.view) (g.V.SectorView.space l.view) l.fork.limit (drop (l.node * l.per) (fork_sectors l.fork.extents.now l.fork.per_block)) l.fn.into l.into l.k;
  whole : IsTrue (g.V.SectorView.space l.fn.view).tells → (j : ℕ) → j < l.k → IsWhole (g.V.SectorView.space l.fn.view).content (g.V.SectorView.space l.fn.view).sectors l.fork.limit (slice_get (fork_sectors l.fork.extents.now l.fork.per_block) (l.node * l.per + j));
  below : g.V.SectorView.follows l.fn.view l.view;
}
