use Rattle.std.proofs.Common.{◌↔◌, ◌⊎◌, ◌<◌, length, refl, subst, ◌∙◌, ap}
use Rattle.std.specs.Prelude.{Contains, IsTrue}
use Rattle.fsck_core.specs.Verdicts.{findings_in, is_clean}
use Rattle.fsck_core.specs.Wants.{as_found}
use Rattle.fsck_core.specs.declared.checking.Verdict.{Verdict as Checked}
use Rattle.fsck_list.specs.declared.finding.Finding.{Finding as Listed}
use Rattle.hfs_volume.specs.Broken.{IsBroken}
use Rattle.hfs_volume.specs.Sound.{IsSound}
use Rattle.volume_header.specs.Refusal.{is_volume_size}
use Rattle.served_volume.proofs.Folded.{cause_both, found_verdict}
use Rattle.served_volume.proofs.judging.VolumeCheckerChecker.check.Goals as goal

pub keep_found-requires : goal.keep_found-requires
keep_found-requires g c = record { size = ap is_volume_size c.check.ensures.reads.same.sectors ∙ c.requires.size }

pub returns-in-Ok-Clean-clause-verdict : goal.returns-in-Ok-Clean-clause-verdict
returns-in-Ok-Clean-clause-verdict g c tells =
    let content = (g.W.SectorView.space c.args.view.now).content in
    (subst (λ (v : Checked). IsTrue (is_clean v) ↔ IsSound content) c.in-Ok-Clean.field-0-is (c.in-Ok-Clean.ensures.sound tells (c.requires.bytes tells))).0 refl

pub returns-in-Ok-Findings-clause-verdict : goal.returns-in-Ok-Findings-clause-verdict
returns-in-Ok-Findings-clause-verdict g c tells =
    let content = (g.W.SectorView.space c.args.view.now).content in
    let reads = c.check.ensures.reads in
    let bytes = c.requires.bytes tells in
    found_verdict content (g.W.SectorView.space c.check.new.view).content c.in-Ok-Findings.found c.keep_found.new.self.found c.keep_found.result c.keep_found.ensures.found (reads.sectors tells).content
    (subst (λ (v : Checked). IsTrue (is_clean v) ↔ IsSound content) c.in-Ok-Findings.field-0-is (c.in-Ok-Findings.ensures.sound tells bytes))
    (subst (λ (v : Checked). IsTrue (is_clean v) ⊎ (0 < length (findings_in v))) c.in-Ok-Findings.field-0-is (c.in-Ok-Findings.ensures.some tells bytes))
    (subst (λ (v : Checked). (f : Listed) → Contains (findings_in v) f → IsBroken content (as_found f)) c.in-Ok-Findings.field-0-is (c.in-Ok-Findings.ensures.broken tells bytes))
    (c.keep_found.ensures.verdict (reads.same.tells ∙ tells))

pub returns-in-Ok-Findings-clause-names : goal.returns-in-Ok-Findings-clause-names
returns-in-Ok-Findings-clause-names g c = c.keep_found.ensures.reads.same.names ∙ c.check.ensures.reads.same.names

pub returns-in-Ok-Findings-clause-cause : goal.returns-in-Ok-Findings-clause-cause
returns-in-Ok-Findings-clause-cause g c = cause_both _ _ _ c.keep_found.result c.check.ensures.reads.faults c.keep_found.ensures.reads.faults c.keep_found.ensures.disk
