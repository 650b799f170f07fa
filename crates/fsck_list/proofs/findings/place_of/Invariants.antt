use Rattle.std.proofs.Common.{◌≤◌, ◌<◌, ℕ, length}
use Rattle.std.specs.Prelude.{slice_index_or}
use Rattle.fsck_list.specs.Order.{IsBefore}
use Rattle.fsck_list.proofs.findings.place_of.Given as goal

abbrev pub invariant-loop-at : goal.invariant-loop-at
invariant-loop-at l = (l.at ≤ length l.list) × ((k : ℕ) → l.at ≤ k → k < length l.list → IsBefore l.finding (slice_index_or l.list k l.finding))

abbrev pub decreases-loop-at : goal.decreases-loop-at
decreases-loop-at l = l.at
