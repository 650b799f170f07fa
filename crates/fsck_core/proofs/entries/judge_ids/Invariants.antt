use Rattle.std.proofs.Common.{take}
use Rattle.std.specs.List.{flat_map}
use Rattle.fsck_core.specs.Judged.{Judged}
use Rattle.fsck_core.specs.Rows.{given_id}
use Rattle.fsck_core.proofs.entries.judge_ids.Given as goal

abbrev pub invariant-loop-row : goal.invariant-loop-row
invariant-loop-row l = record {
  judged : Judged 15 (flat_map (given_id l.next) (take l.row-index l.rows)) l.fn.out l.out l.met;
}
