use Rattle.std.proofs.Common.{◌≡◌, ◌≤◌, ◌-◌, ◌*◌, ◌/◌, ◌^◌, min, max, IsTrue}
use Rattle.std.specs.List.{count_by, range_with_len}
use Rattle.fork_map.specs.Blocks.{fork_sectors}
use Rattle.btree_file.specs.Frame.{ReadsSpace}
use Rattle.fsck_core.specs.Behind.{fork_bit, reached}
use Rattle.fsck_core.proofs.behind.count_stretch.Given as goal

abbrev pub invariant-loop-at : goal.invariant-loop-at
invariant-loop-at g l = record {
  most : l.at ≤ max l.from l.to;
  least_from : l.from ≤ l.at;
  count : IsTrue (g.V.SectorView.space l.fn.view).tells
      → l.before ≡ min (count_by (fork_bit (g.V.SectorView.space l.fn.view).content l.fork.limit (fork_sectors l.fork.extents.now l.fork.per_block)) (range_with_len l.total (reached l.total (8 * l.size) l.from - l.total))) (2 ^ 64 - 1)
      → l.count ≡ min (count_by (fork_bit (g.V.SectorView.space l.fn.view).content l.fork.limit (fork_sectors l.fork.extents.now l.fork.per_block)) (range_with_len l.total (reached l.total (8 * l.size) l.at - l.total))) (2 ^ 64 - 1);
  least : l.total / 4096 ≤ l.at;
  reads : ReadsSpace (g.V.SectorView.space l.fn.view) (g.V.SectorView.space l.view);
  below : g.V.SectorView.follows l.fn.view l.view;
}
