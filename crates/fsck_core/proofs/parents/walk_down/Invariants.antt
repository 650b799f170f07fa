use Rattle.std.proofs.Common.{◌≡◌, ◌≤◌, ◌+◌, ◌-◌, length}
use Rattle.std.specs.List.Sorted.{IsNonDecreasingBy}
use Rattle.flag_rows.specs.Bits.{count_set}
use Rattle.fsck_core.specs.Parents.{IsWalking}
use Rattle.fsck_core.specs.declared.rows.Row.{Row}
use Rattle.fsck_core.proofs.parents.walk_down.Given as goal

abbrev pub decreases-loop-at : goal.decreases-loop-at
decreases-loop-at l = length l.rows + 1 - l.at

abbrev pub invariant-loop-at : goal.invariant-loop-at
invariant-loop-at l = record {
  long : length l.marks.items ≡ length l.rows;
  room : length l.folders.items ≤ count_set l.marks.items + 1;
  walks : IsNonDecreasingBy (λ (r : Row). r.parent) l.rows → IsWalking l.top l.rows l.marks.items l.folders.items l.at;
}
