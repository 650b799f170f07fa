use Rattle.std.proofs.Common.{◌∙◌, List, inr, subst}
use Rattle.sector_disk.specs.Disk.{content}
use Rattle.fsck_list.specs.declared.finding.Finding.{Finding}
use Rattle.hfsx_server.specs.Checking.{IsCheckFault, JudgesImage}
use Rattle.hfsx_server.specs.Telling.{ToldUnlessFailed, findings_text}
use Rattle.hfsx_server.proofs.Checked.{refused_unsound, told_broken, told_sound}
use Rattle.hfsx_server.proofs.checking.check.Goals as goal

pub returns-in-Err-Refused-clause-unsound : goal.returns-in-Err-Refused-clause-unsound
returns-in-Err-Refused-clause-unsound g c tells _ =
    let c0 = content (g.R.SectorDisk.state c.args.rig.now) in
    refused_unsound c0 c.in-Err-Refused.why (subst (IsCheckFault c0) c.in-Err-Refused.field-0-is (c.in-Err-Refused.ensures.refused tells))

pub returns-in-Ok-clause-sound : goal.returns-in-Ok-clause-sound
returns-in-Ok-clause-sound g c tells _ =
    let s0 = g.R.SectorDisk.state c.args.rig.now in
    let s1 = g.R.SectorDisk.state c.judge.new.disk in
    let s2 = g.R.SectorDisk.state c.tell_clean.new.rig in
    let reads = c.judge.ensures.reads in
    told_sound s0 s1 s2 c.in-Ok-Clean.summary (subst (JudgesImage (content s0)) c.in-Ok-Clean.field-0-is (c.in-Ok-Clean.ensures.judged tells)) reads.sink.told (c.in-Ok.ensures.told (reads.same.tells ∙ tells))

pub returns-in-Ok-Findings-clause-found : goal.returns-in-Ok-Findings-clause-found
returns-in-Ok-Findings-clause-found g c tells _ =
    let s0 = g.R.SectorDisk.state c.args.rig.now in
    let s1 = g.R.SectorDisk.state c.judge.new.disk in
    let s2 = g.R.SectorDisk.state c.tell_findings.new.rig in
    let reads = c.judge.ensures.reads in
    inr (told_broken s0 s1 s2 c.in-Ok-Findings.findings (subst (JudgesImage (content s0)) c.in-Ok-Findings.field-0-is (c.in-Ok-Findings.ensures.judged tells)) reads.sink.told reads.sink.faults
    (subst (λ (l : List Finding). ToldUnlessFailed s1 s2 (findings_text l)) c.as_slice.ensures.items (c.tell_findings.ensures.told (reads.same.tells ∙ tells))))
