use Rattle.std.proofs.Common.{◌≡◌, ◌++◌, drop, map}
use Rattle.overflow.specs.declared.changes.Change.TheVariants.{Insert}
use Rattle.overflow.proofs.changes.insert_rest.Given as goal

abbrev pub invariant-loop-at : goal.invariant-loop-at
invariant-loop-at l = l.changes.items ++ map Insert (drop l.at l.wanted) ≡ l.initial.changes.items ++ map Insert (drop l.from l.wanted)
