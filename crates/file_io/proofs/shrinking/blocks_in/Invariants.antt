use Rattle.std.proofs.Common.{◌≡◌, ◌≤◌, ◌+◌, ◌-◌, ◌^◌, drop, length, min}
use Rattle.fork_map.specs.Blocks.{blocks_of}
use Rattle.file_io.proofs.shrinking.blocks_in.Given as goal

abbrev pub invariant-loop-extent : goal.invariant-loop-extent
invariant-loop-extent l = record {
  fits : l.count ≤ 2 ^ 64 - 1;
  sum : min (l.count + length (blocks_of (drop l.extent-index l.items))) (2 ^ 64 - 1) ≡ min (length (blocks_of l.items)) (2 ^ 64 - 1);
}
