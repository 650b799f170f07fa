use Rattle.std.proofs.Common.{◌≡◌, ◌≢◌, ◌⊎◌, ◌<◌, ℕ, false, length}
use Rattle.std.specs.Prelude.{IsTrue, Contains}
use Rattle.fsck_list.specs.declared.finding.Finding.{Finding}
use Rattle.fsck_list.specs.Kept.{IsListed}
use Rattle.hfs_volume.specs.Broken.{IsUnmet}
use Rattle.fsck_core.specs.Wants.{as_found, wants_in, finding_of, want_at}
use Rattle.fsck_core.proofs.want.judge_wants.Given as goal

abbrev pub invariant-loop-want : goal.invariant-loop-want
invariant-loop-want l = record {
  met : IsTrue l.met → (k : ℕ) → k < l.want-index → (want_at l.wants k).found ≡ (want_at l.wants k).wanted;
  unmet : l.met ≡ false → (k : ℕ) × (k < length l.wants) × ((want_at l.wants k).found ≢ (want_at l.wants k).wanted);
  listed : (k : ℕ) → k < l.want-index → (want_at l.wants k).found ≢ (want_at l.wants k).wanted → IsListed l.out (finding_of l.rule (want_at l.wants k));
  still : (finding : Finding) → IsListed l.fn.out finding → IsListed l.out finding;
  each : (finding : Finding) → Contains l.out finding → Contains l.fn.out finding ⊎ IsUnmet l.rule (as_found finding) (wants_in l.wants);
}
