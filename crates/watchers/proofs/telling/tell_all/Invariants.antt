use Rattle.std.proofs.Common.{◌≡◌, false, take}
use Rattle.std.specs.List.{AllByRecursion}
use Rattle.watchers.specs.Told.{AreTold}
use Rattle.watchers.proofs.telling.tell_all.Given as goal

abbrev pub invariant-loop-change : goal.invariant-loop-change
invariant-loop-change g l =
    AllByRecursion (λ w. g.W.Watcher.leaves w ≡ false) l.initial.watchers.items
    → AreTold g.W.Watcher.told g.W.Watcher.leaves (take l.change-index l.changes) l.initial.watchers.items l.watchers.items
