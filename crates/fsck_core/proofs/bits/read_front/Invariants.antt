use Rattle.std.proofs.Common.{◌≡◌, ◌<◌, ◌*◌, ℕ, IsTrue, length}
use Rattle.fork_map.specs.Blocks.{fork_sectors}
use Rattle.flag_rows.specs.Bits.{bit_of}
use Rattle.btree_file.specs.Frame.{ReadsSpace}
use Rattle.fsck_core.specs.Behind.{fork_bit}
use Rattle.fsck_core.proofs.bits.read_front.Given as goal

abbrev pub invariant-loop-at : goal.invariant-loop-at
invariant-loop-at g l = record {
  size : length l.bytes.items ≡ l.at * 512;
  bits : IsTrue (g.V.SectorView.space l.fn.view).tells → (k : ℕ) → k < l.at * 4096 → bit_of l.bytes.items k ≡ fork_bit (g.V.SectorView.space l.fn.view).content l.fork.limit (fork_sectors l.fork.extents.now l.fork.per_block) k;
  reads : ReadsSpace (g.V.SectorView.space l.fn.view) (g.V.SectorView.space l.view);
  below : g.V.SectorView.follows l.fn.view l.view;
}
