use Rattle.std.proofs.Common.{take}
use Rattle.std.specs.List.{flat_map}
use Rattle.fsck_core.specs.Judged.{Judged}
use Rattle.fsck_core.specs.Owners.{row_wants}
use Rattle.fsck_core.proofs.forks.judge_rows.Given as goal

abbrev pub invariant-loop-row : goal.invariant-loop-row
invariant-loop-row l = record {
  judged : Judged 16 (flat_map (row_wants l.total) (take l.row-index l.rows)) l.fn.out l.out l.met;
}
