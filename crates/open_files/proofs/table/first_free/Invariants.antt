use Rattle.std.proofs.Common.{◌≡◌, ◌+◌}
use Rattle.open_files.specs.Handles.{first_free}
use Rattle.open_files.proofs.table.first_free.Given as goal

abbrev pub invariant-loop-left : goal.invariant-loop-left
invariant-loop-left l = record {
  same : first_free l.files l.session l.left l.handle ≡ first_free l.files l.session l.count 1;
  sum : l.handle + l.left ≡ l.count + 1;
}

abbrev pub decreases-loop-left : goal.decreases-loop-left
decreases-loop-left l = l.left
