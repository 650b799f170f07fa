use Rattle.std.proofs.Common.{◌<◌, ◌≤◌, ◌-◌, ℕ, length}
use Rattle.fsck_core.specs.Catalogs.{IsCatalog}
use Rattle.fsck_core.specs.Threads.{placed_at}
use Rattle.fsck_core.proofs.threads.pairs_below.Given as goal

abbrev pub decreases-loop-low : goal.decreases-loop-low
decreases-loop-low l = l.high - l.low

abbrev pub invariant-loop-low : goal.invariant-loop-low
invariant-loop-low l = record {
  order : l.low ≤ l.high;
  within : l.high ≤ length l.pairs;
  below : IsCatalog l.pairs → (k : ℕ) → k < l.low → k < length l.pairs → (placed_at l.pairs k).parent < l.parent;
  rest : IsCatalog l.pairs → (k : ℕ) → l.high ≤ k → k < length l.pairs → l.parent ≤ (placed_at l.pairs k).parent;
}
