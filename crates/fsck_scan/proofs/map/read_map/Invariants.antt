use Rattle.std.proofs.Common.{◌≡◌, ◌≤◌, ◌+◌, ◌*◌, IsTrue, length}
use Rattle.btree_file.specs.Frame.{ReadsSpace}
use Rattle.fork_map.specs.Blocks.{fork_sectors}
use Rattle.hfs_volume.specs.Content.{node_of_fork}
use Rattle.fsck_scan.proofs.MapLaws.{Chained}
use Rattle.fsck_scan.proofs.map.read_map.Given as goal

abbrev pub invariant-loop-read : goal.invariant-loop-read
invariant-loop-read g l = record {
  few : length l.bits.items ≤ 32768 * l._read + 32768;
  long : length l.node ≡ length l.fn.node;
  below : g.V.SectorView.follows l.fn.view l.view;
  reads : ReadsSpace (g.V.SectorView.space l.fn.view) (g.V.SectorView.space l.view);
  so_far : IsTrue (g.V.SectorView.space l.fn.view).tells → Chained (λ n. node_of_fork (g.V.SectorView.space l.fn.view).content l.fork.limit (fork_sectors l.fork.extents.now l.fork.per_block) (length l.fn.node) n)
      (length l.fn.node) l.total l.fn.marks l.marks l.bits.items l.next l._read;
}
