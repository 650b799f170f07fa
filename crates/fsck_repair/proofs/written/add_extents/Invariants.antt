use Rattle.std.proofs.Common.{◌≡◌, ◌++◌, drop}
use Rattle.fsck_repair.proofs.written.add_extents.Given as goal

abbrev pub invariant-loop-extent : goal.invariant-loop-extent
invariant-loop-extent l = l.list ++ drop l.extent-index l.extents ≡ l.initial.list ++ l.extents
