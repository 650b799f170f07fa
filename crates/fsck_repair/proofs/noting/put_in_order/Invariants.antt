use Rattle.fsck_repair.proofs.OrderLaws.{Tidied}
use Rattle.fsck_repair.proofs.noting.put_in_order.Given as goal

abbrev pub invariant-loop-change : goal.invariant-loop-change
invariant-loop-change l = Tidied l.sectors l.change-items l.change-index l.sorted.items
