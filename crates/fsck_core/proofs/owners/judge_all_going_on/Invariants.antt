use Rattle.std.proofs.Common.{map, take}
use Rattle.std.specs.Prelude.{All}
use Rattle.hfs_volume.specs.Blocks.{GoesOn}
use Rattle.fsck_core.specs.Overflows.{overflows_in}
use Rattle.fsck_core.specs.Owners.{owned_in, owned_all}
use Rattle.fsck_core.specs.Owned.{FailsIn, Tested}
use Rattle.fsck_core.proofs.owners.judge_all_going_on.Given as goal

abbrev pub invariant-loop-owned : goal.invariant-loop-owned
invariant-loop-owned l = record {
  tested : Tested (FailsIn (owned_all l.forks) (overflows_in l.rows)) (All (GoesOn (overflows_in l.rows)) (map owned_in (take l.owned-index l.forks))) l.fn.out l.out l.met;
}
