use Rattle.std.proofs.Common.{◌≡◌, ◌≤◌, ◌++◌, drop, length}
use Rattle.overflow.specs.Changes.{changes_to}
use Rattle.overflow.proofs.changes.find_changes.Given as goal

abbrev pub invariant-loop-one : goal.invariant-loop-one
invariant-loop-one l = record {
  within : l.at ≤ length l.wanted;
  rest : l.changes.items ++ changes_to (drop l.one-index l.records) (drop l.at l.wanted) ≡ changes_to l.records l.wanted;
}
