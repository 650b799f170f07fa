use Rattle.std.proofs.Common.{◌<◌, ◌≤◌, ℕ, length, get_or}
use Rattle.fork_map.specs.Blocks.{blocks_of, sectors_of}
use Rattle.file_tests.proofs.gates.holds_bytes.Given as goal

abbrev pub invariant-loop-n : goal.invariant-loop-n
invariant-loop-n l = record {
  size : l.n ≤ length (sectors_of l.per_block (blocks_of l.fork));
  each : (k : ℕ) (d : ℕ) → k < l.n → get_or (sectors_of l.per_block (blocks_of l.fork)) k d < l.sectors;
}
