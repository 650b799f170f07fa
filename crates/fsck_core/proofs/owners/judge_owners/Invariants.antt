use Rattle.std.proofs.Common.{map, take}
use Rattle.std.specs.Prelude.{All}
use Rattle.hfs_volume.specs.Blocks.{HasFork}
use Rattle.fsck_core.specs.Overflows.{overflow_in, overflows_in}
use Rattle.fsck_core.specs.Owners.{owned_all}
use Rattle.fsck_core.specs.Owned.{FailsIn, Tested}
use Rattle.fsck_core.proofs.owners.judge_owners.Given as goal

abbrev pub invariant-loop-row : goal.invariant-loop-row
invariant-loop-row l = record {
  tested : Tested (FailsIn (owned_all l.forks) (overflows_in l.rows)) (All (HasFork (owned_all l.forks)) (map overflow_in (take l.row-index l.rows))) l.fn.out l.out l.met;
}
