use Rattle.std.proofs.Common.{◌≤◌, length}
use Rattle.std.specs.List.Sorted.{IsNonDecreasing}
use Rattle.fsck_core.specs.Decided.{Decided, AllPass, IsMissed}
use Rattle.fsck_core.specs.Rows.{row_at}
use Rattle.fsck_core.specs.Links.{fine_at}
use Rattle.fsck_core.proofs.links.judge_each.Given as goal

abbrev pub invariant-loop-at : goal.invariant-loop-at
invariant-loop-at l = record {
  most : l.at ≤ length l.rows;
  decided : IsNonDecreasing l.shared → Decided (IsMissed 19 (fine_at l.rows l.hidden l.shared) (λ k. (row_at l.rows k).id) (length l.rows)) (AllPass (fine_at l.rows l.hidden l.shared) l.at) l.fn.out l.out l.met;
}
