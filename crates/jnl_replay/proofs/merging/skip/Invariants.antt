use Rattle.std.proofs.Common.{◌≤◌, ◌-◌, length}
use Rattle.jnl_replay.specs.Runs.{EndBy}
use Rattle.jnl_replay.proofs.merging.skip.Given as goal

abbrev pub invariant-loop-k : goal.invariant-loop-k
invariant-loop-k l = record {
  within : l.k ≤ length l.runs;
  ended : EndBy l.runs l.k l.at;
}

abbrev pub decreases-loop-k : goal.decreases-loop-k
decreases-loop-k l = length l.runs - l.k
