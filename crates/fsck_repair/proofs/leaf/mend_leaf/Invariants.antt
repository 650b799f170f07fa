use Rattle.std.proofs.Common.{◌≡◌, List, fold}
use Rattle.std.specs.List.{range_with_len}
use Rattle.btree_node.specs.Node.{offset}
use Rattle.hfs_volume.specs.Records.{Placed}
use Rattle.volume_repair.specs.Repair.{record_mended}
use Rattle.fsck_repair.specs.Counted.{AreEntriesOf}
use Rattle.fsck_repair.specs.Leaf.{IsGoodLeaf, SameFrom}
use Rattle.fsck_repair.proofs.leaf.mend_leaf.Given as goal

abbrev pub invariant-loop-i : goal.invariant-loop-i
invariant-loop-i l = record {
  same : SameFrom (offset l.fn.node l.i) l.fn.node l.node;
  counted : (records : List Placed) → AreEntriesOf records l.entries → IsGoodLeaf l.fn.node → l.node ≡ fold (record_mended records) l.fn.node (range_with_len 0 l.i);
}
