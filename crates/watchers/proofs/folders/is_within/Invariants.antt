use Rattle.std.proofs.Common.{◌≡◌, length}
use Rattle.watchers.specs.Under.{is_within}
use Rattle.watchers.proofs.folders.is_within.Given as goal

abbrev pub invariant-loop-left : goal.invariant-loop-left
invariant-loop-left l = is_within l.left l.known l.top l.at ≡ is_within (length l.known) l.known l.top l.id

abbrev pub decreases-loop-left : goal.decreases-loop-left
decreases-loop-left l = l.left
