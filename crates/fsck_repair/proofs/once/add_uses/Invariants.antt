use Rattle.std.proofs.Common.{◌≡◌, ◌++◌, take}
use Rattle.fsck_repair.specs.Once.{as_uses}
use Rattle.fsck_repair.proofs.once.add_uses.Given as goal

abbrev pub invariant-loop-extent : goal.invariant-loop-extent
invariant-loop-extent l = l.uses.items ≡ l.fn.uses.items ++ as_uses l.written (take l.extent-index l.extents)
