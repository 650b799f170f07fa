use Rattle.std.proofs.Common.{◌≡◌, ◌≤◌, ◌-◌, ◌++◌, drop, length, map}
use Rattle.overflow.specs.Changes.{front_before, behind_front}
use Rattle.overflow.specs.declared.changes.Change.TheVariants.{Insert}
use Rattle.overflow.proofs.changes.insert_before.Given as goal

abbrev pub invariant-loop-at : goal.invariant-loop-at
invariant-loop-at l = record {
  within : l.at ≤ length l.wanted;
  added : l.changes.items ++ map Insert (front_before l.start (drop l.at l.wanted)) ≡ l.initial.changes.items ++ map Insert (front_before l.start (drop l.from l.wanted));
  rest : behind_front l.start (drop l.at l.wanted) ≡ behind_front l.start (drop l.from l.wanted);
}

abbrev pub decreases-loop-at : goal.decreases-loop-at
decreases-loop-at l = length l.wanted - l.at
