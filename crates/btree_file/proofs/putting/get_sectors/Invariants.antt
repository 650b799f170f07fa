use Rattle.std.proofs.Common.{◌≡◌, ◌/◌, length}
use Rattle.fork_map.specs.Blocks.{fork_sectors}
use Rattle.btree_file.proofs.Fetched.{Fetched}
use Rattle.btree_file.proofs.putting.get_sectors.Given as goal

abbrev pub invariant-loop-k : goal.invariant-loop-k
invariant-loop-k g l = record {
  per : l.per ≡ length l.fn.into / 512;
  read : Fetched (g.V.SectorView.space l.fn.space) (g.V.SectorView.space l.space) (fork_sectors l.fork l.per_block) (length l.fn.into / 512) l.node (length l.fn.into) l.into l.k;
  below : g.V.SectorView.follows l.fn.space l.space;
}
