use Rattle.std.proofs.Common.{◌≡◌, ◌++◌, map, take, drop}
use Rattle.fsck_repair.specs.Renewing.{with_header}
use Rattle.fsck_repair.proofs.renewing.change_headers.Given as goal

abbrev pub invariant-loop-change : goal.invariant-loop-change
invariant-loop-change l = l.changes ≡ map (with_header l.last l.head) (take l.change-index l.initial.changes) ++ drop l.change-index l.initial.changes
