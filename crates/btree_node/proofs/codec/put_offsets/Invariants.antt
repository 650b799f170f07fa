use Rattle.std.proofs.Common.{◌≡◌, ◌≤◌, ◌<◌, ◌+◌, ◌^◌, ◌++◌, length, take, drop}
use Rattle.std.specs.List.{concat}
use Rattle.btree_node.specs.Codec.{offsets_bytes}
use Rattle.btree_node.proofs.codec.put_offsets.Given as goal

abbrev pub invariant-loop-left : goal.invariant-loop-left
invariant-loop-left l = record {
  inside : l.left ≤ length l.items;
  place : l.at ≡ 14 + length (concat (take l.left l.items));
  short : l.at < 2 ^ 16;
  table : l.out.items ≡ l.fn.out.items ++ offsets_bytes l.at (drop l.left l.items);
}

abbrev pub decreases-loop-left : goal.decreases-loop-left
decreases-loop-left l = l.left
