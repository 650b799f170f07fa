use Rattle.std.proofs.Common.{◌≡◌, ◌≤◌, ◌-◌, ◌*◌, ◌/◌, ◌^◌, ◌+◌, min, length, take, IsTrue}
use Rattle.fork_map.specs.Blocks.{blocks_of, fork_sectors}
use Rattle.btree_file.specs.Frame.{ReadsSpace}
use Rattle.fsck_core.specs.Behind.{set_up_to, HasSums}
use Rattle.fsck_core.proofs.behind.count_past.Given as goal

abbrev pub invariant-loop-extent : goal.invariant-loop-extent
invariant-loop-extent g l = record {
  count : IsTrue (g.V.SectorView.space l.fn.view).tells → HasSums (g.V.SectorView.space l.fn.view).content l.fork.limit l.total l.fork.per_block l.sums → l.count ≡ min (set_up_to (g.V.SectorView.space l.fn.view).content l.fork.limit (fork_sectors l.fork.extents.now l.fork.per_block) l.total (8 * l.size) l.at) (2 ^ 64 - 1);
  least : l.total / 4096 ≤ l.at;
  front : l.front ≡ length (blocks_of (take l.extent-index l.fork.extents.now));
  few : l.front ≤ l.extent-index * 2 ^ 32;
  far : min ((l.size + 511) / 512) (l.front * l.fork.per_block) ≤ l.at;
  reads : ReadsSpace (g.V.SectorView.space l.fn.view) (g.V.SectorView.space l.view);
  below : g.V.SectorView.follows l.fn.view l.view;
}
