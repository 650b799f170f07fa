use Rattle.std.proofs.Common.{◌<◌, ◌≤◌, ◌-◌, length, get_or}
use Rattle.jnl_replay.specs.declared.runs.Run.{Run}
use Rattle.jnl_replay.proofs.runs.count_up_to.Given as goal

abbrev pub invariant-loop-low : goal.invariant-loop-low
invariant-loop-low l = record {
  order : l.low ≤ l.high;
  within : l.high ≤ length l.runs;
  below : 0 < l.low → (none : Run) → (get_or l.runs (l.low - 1) none).first ≤ l.at;
  above : l.high < length l.runs → (none : Run) → l.at < (get_or l.runs l.high none).first;
}

abbrev pub decreases-loop-low : goal.decreases-loop-low
decreases-loop-low l = l.high - l.low
