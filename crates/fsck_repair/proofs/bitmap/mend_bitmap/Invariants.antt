use Rattle.std.proofs.Common.{◌≡◌, ◌<◌, ◌≤◌, ◌*◌, ◌^◌, ℕ, false, length}
use Rattle.std.specs.Prelude.{Some, slice_get, slice_index_or}
use Rattle.btree_file.specs.Frame.{ReadsSpace}
use Rattle.fork_map.specs.Blocks.{fork_sectors}
use Rattle.jnl_format.specs.Recovery.{Content}
use Rattle.fsck_core.specs.Shown.{Shows}
use Rattle.fsck_repair.specs.Bitmap.{MendsBitmap}
use Rattle.fsck_repair.specs.Changing.{Notes}
use Rattle.fsck_repair.specs.Counted.{IsSkipped, IsPlain}
use Rattle.fsck_repair.proofs.bitmap.mend_bitmap.Given as goal

abbrev pub invariant-loop-place : goal.invariant-loop-place
invariant-loop-place g l = record {
  below : g.V.SectorView.follows l.fn.view l.view;
  reads : ReadsSpace (g.V.SectorView.space l.fn.view) (g.V.SectorView.space l.view);
  noted : (content : Content) → length l.used ≤ 2 ^ 32 → Shows (g.V.SectorView.space l.fn.view) content → IsSkipped content l.skipped
      → ((place at : ℕ) → place * 512 < l.size → slice_get (fork_sectors l.fork l.per_block) place ≡ Some at → IsPlain content at → MendsBitmap content (λ k. slice_index_or l.used k false) l.size place at)
      → Notes content (λ at. IsPlain content at × (place : ℕ) × (place < l.place) × (place * 512 < l.size) × (slice_get (fork_sectors l.fork l.per_block) place ≡ Some at)) l.fn.changes.items l.changes.items;
}
