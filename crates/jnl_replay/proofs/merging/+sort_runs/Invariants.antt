use Rattle.std.proofs.Common.{length}
use Rattle.jnl_replay.proofs.merging.+sort_runs.Given as goal

abbrev pub decreases-sort_runs : goal.decreases-sort_runs
decreases-sort_runs l = length l.runs.items
