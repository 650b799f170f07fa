use Rattle.std.proofs.Common.{◌≤◌, ◌<◌, ◌-◌, length, get_or}
use Rattle.fork_map.proofs.summed.count_at_most.Given as goal

-- the number before the low place is at most n, that at the high place greater
abbrev pub invariant-loop-low : goal.invariant-loop-low
invariant-loop-low l = record {
  order : l.low ≤ l.high;
  most : l.high ≤ length l.sums;
  below : 0 < l.low → get_or l.sums (l.low - 1) 0 ≤ l.n;
  above : l.high < length l.sums → l.n < get_or l.sums l.high 0;
}

abbrev pub decreases-loop-low : goal.decreases-loop-low
decreases-loop-low l = l.high - l.low
