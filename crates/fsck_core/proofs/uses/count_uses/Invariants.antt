use Rattle.std.proofs.Common.{◌≡◌, ◌≤◌, take}
use Rattle.fork_map.specs.Blocks.{blocks_of}
use Rattle.alloc_bitmap.specs.Apart.{times}
use Rattle.fsck_core.proofs.uses.count_uses.Given as goal

abbrev pub invariant-loop-extent : goal.invariant-loop-extent
invariant-loop-extent l = record {
  count : l.count ≡ times l.block (blocks_of (take l.extent-index l.extents));
  few : l.count ≤ l.extent-index;
}
