use Rattle.std.proofs.Common.{◌≡◌, ◌<◌, ◌+◌, ◌*◌, ◌/◌, ℕ, length}
use Rattle.btree_file.specs.Frame.{ReadsSpace}
use Rattle.fork_map.specs.Blocks.{fork_sectors}
use Rattle.jnl_format.specs.Recovery.{Content}
use Rattle.fsck_core.specs.Shown.{Shows}
use Rattle.fsck_repair.specs.Changing.{Notes}
use Rattle.fsck_repair.specs.Counted.{IsSkipped}
use Rattle.fsck_repair.specs.Leaf.{MendsNode, IsPlainAt}
use Rattle.fsck_repair.proofs.leaves.note_node.Given as goal

abbrev pub invariant-loop-k : goal.invariant-loop-k
invariant-loop-k g l = record {
  per : l.per_node ≡ length l.bytes / 512;
  below : g.V.SectorView.follows l.fn.view l.view;
  reads : ReadsSpace (g.V.SectorView.space l.fn.view) (g.V.SectorView.space l.view);
  noted : (content : Content) → Shows (g.V.SectorView.space l.fn.view) content → IsSkipped content l.skipped → MendsNode content (fork_sectors l.fork.extents.now l.fork.per_block) (length l.bytes / 512) l.node l.bytes
      → Notes content (λ at. (j : ℕ) × (j < l.k) × IsPlainAt content (fork_sectors l.fork.extents.now l.fork.per_block) (l.node * (length l.bytes / 512) + j) at) l.fn.changes.items l.changes.items;
}
