use Rattle.std.proofs.Common.{vec_len, ◌-◌, ◌∷◌, []}
use Rattle.watchers.proofs.Tellings.{Half}
use Rattle.watchers.proofs.telling.tell_each.Given as goal

abbrev pub invariant-loop-at : goal.invariant-loop-at
invariant-loop-at g l =
    Half g.W.Watcher.told g.W.Watcher.leaves (l.change ∷ []) l.initial.watchers.items l.watchers.items l.at

abbrev pub decreases-loop-at : goal.decreases-loop-at
decreases-loop-at g l = vec_len l.watchers - l.at
