use Rattle.std.proofs.Common.{◌≡◌, false, take}
use Rattle.std.specs.List.{list_any}
use Rattle.fsck_core.specs.Parents.{is_root_row}
use Rattle.fsck_core.proofs.parents.has_root.Given as goal

abbrev pub invariant-loop-row : goal.invariant-loop-row
invariant-loop-row l = record {
  none : list_any is_root_row (take l.row-index l.rows) ≡ false;
}
