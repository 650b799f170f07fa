use Rattle.std.proofs.Common.{◌≡◌, ◌-◌, length, take, drop}
use Rattle.fork_map.specs.Blocks.{blocks_of}
use Rattle.fork_map.proofs.summed.keep_blocks.Given as goal

-- the first extents hold the first blocks
abbrev pub invariant-loop-i : goal.invariant-loop-i
invariant-loop-i l = record {
  long : length l.list.items ≡ length l.fn.list.items;
  ahead : drop l.i l.list.items ≡ drop l.i l.fn.list.items;
  done : blocks_of (take l.i l.list.items) ≡ take l.blocks (blocks_of (take l.i l.fn.list.items));
  left : l.left ≡ l.blocks - length (blocks_of (take l.i l.fn.list.items));
}
