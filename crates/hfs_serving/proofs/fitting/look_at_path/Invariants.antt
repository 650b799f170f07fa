use Rattle.std.proofs.Common.{◌≤◌, ◌<◌, ℕ, [], length}
use Rattle.std.specs.Prelude.{slice_index_or}
use Rattle.name_text.specs.Laws.{AreUnits}
use Rattle.hfs_serving.proofs.fitting.look_at_path.Given as goal

abbrev pub invariant-loop-at : goal.invariant-loop-at
invariant-loop-at l = (l.at ≤ length l.path) × ((k : ℕ) → l.at ≤ k → k < length l.path → AreUnits (slice_index_or l.path k []))

abbrev pub decreases-loop-at : goal.decreases-loop-at
decreases-loop-at l = l.at
