use Rattle.std.proofs.Common.{◌≡◌, ◌≤◌, IsTrue}
use Rattle.btree_file.specs.Frame.{ReadsSpace}
use Rattle.fsck_core.specs.Behind.{all_blocks, told_before, HasSums}
use Rattle.fsck_core.proofs.behind.sum_bits.Given as goal

abbrev pub invariant-loop-k : goal.invariant-loop-k
invariant-loop-k g l = record {
  most : l.done ≤ l.total;
  count : IsTrue (g.V.SectorView.space l.fn.view).tells → l.whole.extents.now ≡ all_blocks l.total → l.count ≡ told_before (g.V.SectorView.space l.fn.view).content l.whole.limit l.total l.whole.per_block l.done;
  sums : IsTrue (g.V.SectorView.space l.fn.view).tells → l.whole.extents.now ≡ all_blocks l.total → HasSums (g.V.SectorView.space l.fn.view).content l.whole.limit l.total l.whole.per_block l.sums.items;
  reads : ReadsSpace (g.V.SectorView.space l.fn.view) (g.V.SectorView.space l.view);
  below : g.V.SectorView.follows l.fn.view l.view;
}
