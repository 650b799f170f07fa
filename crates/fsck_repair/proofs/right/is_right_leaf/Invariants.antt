use Rattle.std.proofs.Common.{◌<◌, ℕ, List}
use Rattle.hfs_volume.specs.Records.{Placed}
use Rattle.fsck_repair.specs.Counted.{AreEntriesOf}
use Rattle.fsck_repair.specs.Leaf.{IsGoodLeaf}
use Rattle.fsck_repair.proofs.RightLaws.{IsRightAt}
use Rattle.fsck_repair.proofs.right.is_right_leaf.Given as goal

abbrev pub invariant-loop-i : goal.invariant-loop-i
invariant-loop-i l = (records : List Placed) → AreEntriesOf records l.entries → IsGoodLeaf l.node → (k : ℕ) → k < l.i → IsRightAt records l.node k
