use Rattle.std.proofs.Common.{◌≡◌, ◌<◌, ◌≤◌, ℕ, length, get_or}
use Rattle.fork_map.specs.Blocks.{fork_sectors}
use Rattle.tree_kit.proofs.plot.lies_below.Given as goal

abbrev pub invariant-loop-n : goal.invariant-loop-n
invariant-loop-n l = record {
  size : l.n ≤ length (fork_sectors l.fork l.per_block);
  each : (k : ℕ) → k < l.n → get_or (fork_sectors l.fork l.per_block) k 0 < l.sectors;
}
