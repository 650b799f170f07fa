-- A barrier after a stretch of calls.
use Rattle.std.proofs.Common.{◌≡◌, Result, Ok, Err, OnOk, OnErr, sym, ◌∙◌, ap, subst}
use Rattle.sector_disk.specs.Lists.{Content}
use Rattle.sector_disk.specs.Clock.{TimePasses, WithTold}
use Rattle.sector_disk.specs.Disk.{State, IsImage, LeftNow, CrashesLeave, SameSink, content, content_of, only, Candidates}
use Rattle.sector_disk.proofs.Passing.{both_pass, none_passes}
use Rattle.sector_disk.proofs.Candidates.{content_of-only}
use Rattle.sector_disk.proofs.Stages.{image_only}

pub leaves_barrier : (s0 s1 s2 : State) (P : Content → Type 0) → CrashesLeave s0 s1 P → SameSink s0 s1 → SameSink s1 s2 → TimePasses s1.clock s2.clock (LeftNow s2) → ((image : Content) → IsImage s2.candidates image → P image) → CrashesLeave s0 s2 P
leaves_barrier s0 s1 s2 P first before sink time now = record {
  time = both_pass s0.clock s1.clock s2.clock _ (LeftNow s2) _ first.time time (λ image told a. a) (λ image told a. (now image a.0, a.1 ∙ sink.told ∙ before.told));
  now = now;
}

-- it came, and one content is left
pub barrier_now : (s1 s2 : State) (P : Content → Type 0) → s2.candidates ≡ only (content s1) → P (content s1) → (image : Content) → IsImage s2.candidates image → P image
barrier_now s1 s2 P settled p image is =
    subst P (sym (image_only (content s1) image (subst (λ (d : Candidates). IsImage d image) settled is))) p

-- it failed
pub barrier_failed : (s0 s1 s2 : State) (P : Content → Type 0) → CrashesLeave s0 s1 P → s2.candidates ≡ s1.candidates → (image : Content) → IsImage s2.candidates image → P image
barrier_failed s0 s1 s2 P first same image is = first.now image (subst (λ (d : Candidates). IsImage d image) same is)

pub settled_content : (s1 s2 : State) → s2.candidates ≡ only (content s1) → content s2 ≡ content s1
settled_content s1 s2 settled = ap content_of settled ∙ content_of-only (content s1)

-- it came or failed
pub barrier_either : {T E : Type 0} (s1 s2 : State) (P : Content → Type 0) (result : Result T E) → ((image : Content) → IsImage s1.candidates image → P image) → OnOk result (s2.candidates ≡ only (content s1)) → OnErr result (s2.candidates ≡ s1.candidates)
    → (s2.candidates ≡ only (content s1) → P (content s1)) → (image : Content) → IsImage s2.candidates image → P image
barrier_either s1 s2 P (Ok x) before settled failed now = barrier_now s1 s2 P settled (now settled)
barrier_either s1 s2 P (Err e) before settled failed now = λ image is. before image (subst (λ (d : Candidates). IsImage d image) failed is)

-- nothing happened
pub leaves_none : (s : State) (P : Content → Type 0) → ((image : Content) → IsImage s.candidates image → P image) → CrashesLeave s s P
leaves_none s P now = record { time = none_passes s.clock (WithTold s.told P); now = now }
