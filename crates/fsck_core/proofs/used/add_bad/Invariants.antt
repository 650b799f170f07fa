use Rattle.std.proofs.Common.{◌≡◌, ◌++◌, take}
use Rattle.std.specs.List.{flat_map}
use Rattle.fsck_core.specs.UsedExtents.{bad_in}
use Rattle.fsck_core.proofs.used.add_bad.Given as goal

abbrev pub invariant-loop-row : goal.invariant-loop-row
invariant-loop-row l = record {
  list : l.list ≡ l.initial.list ++ flat_map bad_in (take l.row-index l.rows);
}
