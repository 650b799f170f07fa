use Rattle.std.proofs.Common.{◌≡◌, ◌≤◌, ◌/◌, ℕ, List, length}
use Rattle.std.specs.Prelude.{slice_index}
use Rattle.btree_file.specs.Frame.{ReadsSpace}
use Rattle.fork_map.specs.Blocks.{fork_sectors}
use Rattle.jnl_format.specs.Recovery.{Content}
use Rattle.hfs_volume.specs.Content.{node_of_fork}
use Rattle.hfs_volume.specs.Records.{Placed}
use Rattle.fsck_core.specs.Shown.{Shows}
use Rattle.fsck_repair.specs.Changing.{Notes}
use Rattle.fsck_repair.specs.Counted.{AreEntriesOf, IsSkipped}
use Rattle.fsck_repair.specs.Leaf.{AreLeaves, IsOfLeaves}
use Rattle.fsck_repair.proofs.leaves.mend_leaves.Given as goal

abbrev pub invariant-loop-read : goal.invariant-loop-read
invariant-loop-read g l = record {
  long : length l.node ≡ length l.fn.node;
  below : g.V.SectorView.follows l.fn.view l.view;
  reads : ReadsSpace (g.V.SectorView.space l.fn.view) (g.V.SectorView.space l.view);
  noted : (content : Content) (records : List Placed) (leaves : List ℕ) → Shows (g.V.SectorView.space l.fn.view) content → IsSkipped content l.skipped → AreEntriesOf records l.entries → l.first ≡ slice_index leaves 0
      → AreLeaves content (fork_sectors l.fork.extents.now l.fork.per_block) (λ n. node_of_fork content l.fork.limit (fork_sectors l.fork.extents.now l.fork.per_block) (length l.fn.node) n) (length l.fn.node / 512) records leaves
      → (l.next ≡ slice_index leaves l._read) × (l._read ≤ length leaves) × Notes content (IsOfLeaves content (fork_sectors l.fork.extents.now l.fork.per_block) (length l.fn.node / 512) leaves l._read) l.fn.changes.items l.changes.items;
}
