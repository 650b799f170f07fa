use Rattle.std.proofs.Common.{◌≡◌, ◌≤◌, ◌-◌, ◌/◌, IsTrue, length}
use Rattle.std.specs.List.{All}
use Rattle.btree_node.specs.TreeFile.{TreeFile}
use Rattle.btree_file.specs.Frame.{ReadsSpace}
use Rattle.fork_map.specs.Blocks.{fork_sectors}
use Rattle.hfs_volume.specs.Content.{node_of_fork}
use Rattle.fsck_scan.specs.Good.{IsGoodRecord}
use Rattle.fsck_scan.specs.Scan.{StandsAt, HasNodes, ComesToRoot}
use Rattle.fsck_scan.proofs.tree.read_levels.Given as goal

abbrev pub invariant-loop-above : goal.invariant-loop-above
invariant-loop-above g l = record {
  within : l.above ≤ l.height - 1;
  long : length l.node ≡ length l.fn.node;
  places : length l.marks ≡ length l.fn.marks;
  below : g.V.SectorView.follows l.fn.view l.view;
  reads : ReadsSpace (g.V.SectorView.space l.fn.view) (g.V.SectorView.space l.view);
  good : All (IsGoodRecord g.K.KeyOrder.is_key g.K.KeyOrder.is_value (length l.fn.node / 2 - 10) (l.height - l.above)) l.level.records;
  stands : IsTrue (g.V.SectorView.space l.fn.view).tells → (tree : TreeFile)
      → HasNodes tree (λ n. node_of_fork (g.V.SectorView.space l.fn.view).content l.fork.limit (fork_sectors l.fork.extents.now l.fork.per_block) (length l.fn.node) n) (length l.fn.node) l.total
      → ComesToRoot g.K.KeyOrder.is_key g.K.KeyOrder.is_value g.K.KeyOrder.cmp tree (length l.fn.node) l.total l.height l.root l.fn.marks l.fn.node → StandsAt g.K.KeyOrder.is_key g.K.KeyOrder.is_value g.K.KeyOrder.cmp tree l.above l.marks l.level.nodes.items l.level.records l.level.ends.items;
}
