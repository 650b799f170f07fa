use Rattle.std.proofs.Common.{◌≡◌, ◌++◌, take}
use Rattle.std.specs.List.{flat_map}
use Rattle.fork_map.specs.Blocks.{blocks_of}
use Rattle.fsck_core.proofs.UsedLists.{value_blocks}
use Rattle.fsck_core.proofs.used.add_values.Given as goal

abbrev pub invariant-loop-at : goal.invariant-loop-at
invariant-loop-at l = record {
  blocks : blocks_of l.list ≡ blocks_of l.initial.list ++ flat_map value_blocks (take l.at l.attributes);
}
