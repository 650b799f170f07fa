use Rattle.std.proofs.Common.{◌≡◌, ◌≤◌, drop, length}
use Rattle.fork_map.specs.Blocks.{blocks_of}
use Rattle.file_io.proofs.shrinking.last_record.Given as goal

abbrev pub invariant-loop-behind : goal.invariant-loop-behind
invariant-loop-behind l = record {
  inside : l.behind ≤ length l.items;
  none : length (blocks_of (drop l.behind l.items)) ≡ 0;
}

abbrev pub decreases-loop-behind : goal.decreases-loop-behind
decreases-loop-behind l = l.behind
