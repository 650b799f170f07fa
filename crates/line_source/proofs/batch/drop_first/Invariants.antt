use Rattle.std.proofs.Common.{◌≡◌, ◌≤◌, length, drop}
use Rattle.line_source.proofs.batch.drop_first.Given as goal

abbrev pub invariant-loop-at : goal.invariant-loop-at
invariant-loop-at l = record { dropped : l.lines.items ≡ drop l.at l.initial.lines.items; inside : l.count ≤ length l.initial.lines.items }
