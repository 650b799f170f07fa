use Rattle.std.proofs.Common.{◌≡◌, ◌+◌, ◌*◌, ◌^◌, ◌≤◌, ◌<◌, drop, length}
use Rattle.fork_map.specs.Blocks.{blocks_of}
use Rattle.overflow.proofs.record.count_blocks.Given as goal

abbrev pub invariant-loop-extent : goal.invariant-loop-extent
invariant-loop-extent l = record {
  small : l.count ≤ 2 ^ 32 * l.extent-index;
  few : length l.extents < 2 ^ 32;
  rest : l.count + length (blocks_of (drop l.extent-index l.extents)) ≡ length (blocks_of l.extents);
}
