use Rattle.std.proofs.Common.{◌≡◌, drop, Some}
use Rattle.fsck_core.specs.Owners.{follow}
use Rattle.fsck_core.proofs.follow.follow.Given as goal

abbrev pub invariant-loop-row : goal.invariant-loop-row
invariant-loop-row l = record {
  rest : follow l.id l.kind (Some l.front) (drop l.row-index l.rows) ≡ follow l.id l.kind (Some l.fn.first) l.rows;
}
