use Rattle.std.proofs.Common.{◌≡◌, ◌+◌}
use Rattle.open_files.specs.Sessions.{session_from}
use Rattle.open_files.proofs.session.session_from.Given as goal

abbrev pub invariant-loop-left : goal.invariant-loop-left
invariant-loop-left l = record {
  same : session_from l.line l.left l.number ≡ session_from l.line l.count l.first;
  sum : l.number + l.left ≡ l.first + l.count;
}

abbrev pub decreases-loop-left : goal.decreases-loop-left
decreases-loop-left l = l.left
