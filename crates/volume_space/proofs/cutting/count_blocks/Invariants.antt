use Rattle.std.proofs.Common.{◌≡◌, ◌+◌, ◌*◌, ◌^◌, ◌≤◌, drop, length}
use Rattle.fork_map.specs.Blocks.{blocks_of}
use Rattle.volume_space.proofs.cutting.count_blocks.Given as goal

abbrev pub invariant-loop-extent : goal.invariant-loop-extent
invariant-loop-extent l = record {
  small : l.count ≤ 2 ^ 32 * l.extent-index;
  rest : l.count + length (blocks_of (drop l.extent-index l.extents)) ≡ length (blocks_of l.extents);
}
