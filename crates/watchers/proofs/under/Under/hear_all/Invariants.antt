use Rattle.std.proofs.Common.{take}
use Rattle.watchers.specs.Under.{TellsUnder}
use Rattle.watchers.proofs.under.Under.hear_all.Given as goal

abbrev pub invariant-loop-change : goal.invariant-loop-change
invariant-loop-change g l = TellsUnder g.W.Watcher.told (take l.change-index l.changes) l.initial.self l.self
