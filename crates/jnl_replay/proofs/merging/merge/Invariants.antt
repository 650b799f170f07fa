use Rattle.std.proofs.Common.{◌≤◌, ◌-◌, ◌^◌, length}
use Rattle.jnl_replay.specs.Runs.{EndBy}
use Rattle.jnl_replay.proofs.MergeLaws.{IsMerged}
use Rattle.jnl_replay.proofs.merging.merge.Given as goal

abbrev pub invariant-runs : goal.invariant-runs
invariant-runs l = record {
  merged : IsMerged l.older l.newer l.out.items l.at;
  few_older : l.i ≤ length l.older;
  few_newer : l.j ≤ length l.newer;
  ended_older : EndBy l.older l.i l.at;
  ended_newer : EndBy l.newer l.j l.at;
}

abbrev pub decreases-runs : goal.decreases-runs
decreases-runs l = 2 ^ 32 - l.at
