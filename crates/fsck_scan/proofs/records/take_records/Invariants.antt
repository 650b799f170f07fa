use Rattle.std.proofs.Common.{take}
use Rattle.btree_node.specs.Node.{items}
use Rattle.fsck_scan.specs.Good.{Takes}
use Rattle.fsck_scan.proofs.records.take_records.Given as goal

abbrev pub invariant-loop-i : goal.invariant-loop-i
invariant-loop-i g l = Takes g.K.KeyOrder.is_key g.K.KeyOrder.is_value g.K.KeyOrder.cmp l.most l.height (take l.i (items l.node)) l.fn.records l.records
