use Rattle.std.proofs.Common.{◌≡◌, ◌⊎◌, ◌<◌, ◌≤◌, ℕ, false, length}
use Rattle.std.specs.Prelude.{All, IsTrue, Contains}
use Rattle.btree_node.specs.Levels.{Pair}
use Rattle.fsck_list.specs.declared.finding.Finding.{Finding}
use Rattle.hfs_volume.specs.Broken.{IsFailed, FailsKind}
use Rattle.fsck_core.specs.Wants.{as_found}
use Rattle.fsck_core.specs.Kinds.{IsOfKind}
use Rattle.fsck_core.proofs.KindLaws.{pair_at}
use Rattle.fsck_core.proofs.kinds.judge_kinds.Given as goal

abbrev pub invariant-loop-i : goal.invariant-loop-i
invariant-loop-i l = record {
  met : IsTrue l.met → (k : ℕ) → k < l.i → IsOfKind (pair_at l.pairs k);
  unmet : l.met ≡ false → (k : ℕ) × (k < length l.pairs) × (¬ IsOfKind (pair_at l.pairs k));
  found : l.met ≡ false → 0 < length l.out;
  each : All (λ (pair : Pair). 8 ≤ length pair.0) l.pairs → (finding : Finding) → Contains l.out finding → Contains l.fn.out finding ⊎ IsFailed 8 (as_found finding) (FailsKind l.pairs);
}
