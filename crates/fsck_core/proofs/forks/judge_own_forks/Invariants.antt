use Rattle.std.proofs.Common.{take}
use Rattle.std.specs.Prelude.{All}
use Rattle.std.specs.List.{flat_map}
use Rattle.hfs_volume.specs.Blocks.{GoesOn}
use Rattle.fsck_core.specs.Judged.{Judged}
use Rattle.fsck_core.specs.Overflows.{overflows_in}
use Rattle.fsck_core.specs.Owners.{owned_in, own_wants}
use Rattle.fsck_core.specs.declared.follow.OwnedFork.{OwnedFork}
use Rattle.fsck_core.proofs.forks.judge_own_forks.Given as goal

abbrev pub invariant-loop-owned : goal.invariant-loop-owned
invariant-loop-owned l = record {
  judged : All (λ (row : OwnedFork). GoesOn (overflows_in l.rows) (owned_in row)) l.forks → Judged 16 (flat_map (λ (row : OwnedFork). own_wants l.head (overflows_in l.rows) (owned_in row)) (take l.owned-index l.forks)) l.fn.out l.out l.met;
}
