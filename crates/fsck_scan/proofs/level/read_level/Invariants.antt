use Rattle.std.proofs.Common.{◌≡◌, IsTrue, length}
use Rattle.std.specs.List.{All}
use Rattle.btree_node.specs.Levels.{key_of, Ascends}
use Rattle.btree_file.specs.Frame.{ReadsSpace}
use Rattle.fork_map.specs.Blocks.{fork_sectors}
use Rattle.hfs_volume.specs.Content.{node_of_fork}
use Rattle.fsck_scan.specs.Good.{IsGoodRecord}
use Rattle.fsck_scan.specs.Level.{HasRead}
use Rattle.fsck_scan.proofs.level.read_level.Given as goal

abbrev pub invariant-loop-k : goal.invariant-loop-k
invariant-loop-k g l = record {
  keys : All (λ item. g.K.KeyOrder.is_key (key_of item)) l.records;
  good : All (IsGoodRecord g.K.KeyOrder.is_key g.K.KeyOrder.is_value l.most l.height) l.records;
  rising : Ascends g.K.KeyOrder.cmp l.records;
  long : length l.node ≡ length l.fn.node;
  below : g.V.SectorView.follows l.fn.view l.view;
  reads : ReadsSpace (g.V.SectorView.space l.fn.view) (g.V.SectorView.space l.view);
  read : IsTrue (g.V.SectorView.space l.fn.view).tells → HasRead g.K.KeyOrder.is_key g.K.KeyOrder.is_value g.K.KeyOrder.cmp
      (λ n. node_of_fork (g.V.SectorView.space l.fn.view).content l.fork.limit (fork_sectors l.fork.extents.now l.fork.per_block) (length l.fn.node) n) l.most l.height l.nodes l.names l.k l.records l.ends.items;
}
