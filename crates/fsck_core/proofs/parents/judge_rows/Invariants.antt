use Rattle.std.proofs.Common.{◌≡◌, ◌⊎◌, ◌<◌, ℕ, true, false, length}
use Rattle.std.specs.Prelude.{IsTrue, Contains}
use Rattle.fsck_list.specs.declared.finding.Finding.{Finding}
use Rattle.hfs_volume.specs.Broken.{IsFailed}
use Rattle.fsck_core.specs.Decided.{StaysListed, IsTold}
use Rattle.fsck_core.specs.Wants.{as_found}
use Rattle.fsck_core.specs.Rows.{row_at}
use Rattle.fsck_core.specs.Parents.{marked, is_reached, FailsReach}
use Rattle.fsck_core.proofs.parents.judge_rows.Given as goal

abbrev pub invariant-loop-at : goal.invariant-loop-at
invariant-loop-at l = record {
  met : IsTrue l.met → (k : ℕ) → k < l.at → is_reached (row_at l.rows k) (marked l.marks k) ≡ true;
  unmet : l.met ≡ false → (k : ℕ) × (k < length l.rows) × (is_reached (row_at l.rows k) (marked l.marks k) ≡ false);
  found : l.met ≡ false → IsTold (λ f. IsFailed 10 f (FailsReach l.rows l.marks)) l.out;
  still : StaysListed l.fn.out l.out;
  each : (finding : Finding) → Contains l.out finding → Contains l.fn.out finding ⊎ IsFailed 10 (as_found finding) (FailsReach l.rows l.marks);
}
