use Rattle.watchers.specs.Under.{moved_one}
use Rattle.watchers.proofs.Moves.{Changed}
use Rattle.watchers.proofs.folders.moved.Given as goal

abbrev pub invariant-loop-at : goal.invariant-loop-at
invariant-loop-at l = Changed (moved_one l.id l.parent) l.fn.known l.known l.at-index
