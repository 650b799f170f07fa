use Rattle.std.proofs.Common.{◌≡◌, ◌<◌, List, length, take, sym, subst, arith}
use Rattle.std.specs.List.{flat_map}
use Rattle.std.proofs.lemmas.List.{take_all}
use Rattle.std.proofs.lemmas.Result.{err_from_is_err_and}
use Rattle.fsck_list.specs.declared.finding.Finding.{Finding}
use Rattle.hfsx_server.specs.Telling.{finding_text}
use Rattle.hfsx_server.proofs.Telling.{ToldAll, told_nothing, told_next, told_failed, told_whole, take_nothing}
use Rattle.hfsx_server.proofs.reports.tell_each.Goals as goal

abbrev none : Finding
none = record { rule = 0; place = 0; found = 0; wanted = 0 }

pub loop-finding-init : goal.loop-finding-init
loop-finding-init g c =
    let old = g.R.SectorDisk.state c.args.rig.now in
    subst (λ (l : List Finding). ToldAll old old (flat_map finding_text l)) (sym (take_nothing c.args.findings.now)) (told_nothing old)

pub loop-finding-preserved : goal.loop-finding-preserved
loop-finding-preserved g c =
    let inside : c.loop-finding.finding-index < length c.args.findings.now = omega arith in
    told_next finding_text none (g.R.SectorDisk.state c.args.rig.now) (g.R.SectorDisk.state c.loop-finding.rig) (g.R.SectorDisk.state c.tell_finding.new.rig) c.args.findings.now c.loop-finding.finding-index _ inside c.loop-finding.invariant c.in_ok-tell_finding.ensures

pub returns-in_err-tell_finding : goal.returns-in_err-tell_finding
returns-in_err-tell_finding g c =
    let inside : c.loop-finding.finding-index < length c.args.findings.now = omega arith in
    let p = err_from_is_err_and c.from_residual.result c.from_residual.ensures.1 in
    told_failed finding_text none (g.R.SectorDisk.state c.args.rig.now) (g.R.SectorDisk.state c.loop-finding.rig) (g.R.SectorDisk.state c.tell_finding.new.rig) c.args.findings.now c.loop-finding.finding-index _ p.0 c.from_residual.result inside p.1
    c.loop-finding.invariant c.in_err-tell_finding.ensures

pub returns : goal.returns
returns g c =
    let all : take c.loop-finding.finding-index c.args.findings.now ≡ c.args.findings.now = take_all c.loop-finding.finding-index c.args.findings.now (omega arith) in
    told_whole finding_text none (g.R.SectorDisk.state c.args.rig.now) (g.R.SectorDisk.state c.loop-finding.rig) c.args.findings.now c.loop-finding.finding-index _ all c.loop-finding.invariant
