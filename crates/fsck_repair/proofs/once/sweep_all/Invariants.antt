use Rattle.std.proofs.Common.{◌<◌, ◌≤◌, ℕ, take, get_or}
use Rattle.std.specs.List.Sorted.{IsNonDecreasingBy}
use Rattle.fsck_repair.specs.Once.{times_used, times_written, HasSwept}
use Rattle.fsck_repair.proofs.OnceLaws.{no_use}
use Rattle.fsck_repair.proofs.once.sweep_all.Given as goal

abbrev pub invariant-loop-one : goal.invariant-loop-one
invariant-loop-one l =
    IsNonDecreasingBy (λ one. one.extent.start) l.uses → (last : ℕ) → ((k : ℕ) → k < l.one-index → (get_or l.uses k no_use).extent.start ≤ last)
    → HasSwept (times_used (take l.one-index l.uses)) (times_written (take l.one-index l.uses)) l.sweep last
