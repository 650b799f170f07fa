use Rattle.std.proofs.Common.{◌≡◌, ◌++◌, take}
use Rattle.std.specs.List.{flat_map}
use Rattle.fork_map.specs.Blocks.{blocks_of}
use Rattle.fsck_core.specs.Overflows.{overflows_in}
use Rattle.fsck_core.proofs.UsedLists.{blocks_at}
use Rattle.fsck_core.proofs.used.add_owned.Given as goal

abbrev pub invariant-loop-owned : goal.invariant-loop-owned
invariant-loop-owned l = record {
  blocks : blocks_of l.list ≡ blocks_of l.initial.list ++ flat_map (blocks_at (overflows_in l.rows)) (take l.owned-index l.forks);
}
