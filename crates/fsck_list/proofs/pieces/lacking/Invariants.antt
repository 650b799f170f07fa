use Rattle.std.proofs.Common.{◌≡◌, [], replicate}
use Rattle.fsck_list.proofs.pieces.lacking.Given as goal

abbrev pub invariant-loop-taken : goal.invariant-loop-taken
invariant-loop-taken l = l.pieces.items ≡ replicate l._taken []
