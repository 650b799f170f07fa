use Rattle.std.proofs.Common.{◌≡◌, ◌≤◌, ◌<◌, ◌*◌, ◌^◌, ℕ, length, take, get_or}
use Rattle.fork_map.specs.Blocks.{blocks_of}
use Rattle.fork_map.proofs.summed.fill_sums.Given as goal

-- the sums of the first extents are written
abbrev pub invariant-loop-at : goal.invariant-loop-at
invariant-loop-at l = record {
  long : length l.sums ≡ length l.fn.sums;
  done : (k : ℕ) → k < l.at → get_or l.sums k 0 ≡ length (blocks_of (take k l.extents));
  sum : l.sum ≡ length (blocks_of (take l.at l.extents));
  small : l.sum ≤ 2 ^ 32 * l.at;
}
