use Rattle.std.proofs.Common.{take}
use Rattle.std.specs.List.{flat_map}
use Rattle.std.specs.List.Sorted.{IsNonDecreasingBy}
use Rattle.fsck_core.specs.Judged.{Judged}
use Rattle.fsck_core.specs.Rows.{valence_of}
use Rattle.fsck_core.specs.declared.rows.Row.{Row}
use Rattle.fsck_core.proofs.entries.judge_valences.Given as goal

abbrev pub invariant-loop-row : goal.invariant-loop-row
invariant-loop-row l = record {
  judged : IsNonDecreasingBy (λ (r : Row). r.parent) l.rows → Judged 11 (flat_map (valence_of l.rows) (take l.row-index l.rows)) l.fn.out l.out l.met;
}
