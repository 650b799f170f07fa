use Rattle.std.proofs.Common.{sym, subst}
use Rattle.std.specs.Prelude.{Result, IfOk, IfErr}
use Rattle.jnl_replay.specs.declared.plan.Plan.{Plan}
use Rattle.sector_disk.specs.Disk.{content}
use Rattle.hfs_serving.specs.Checking.{IsFound, RefusesMount}
use Rattle.hfs_serving.specs.declared.checking.MountRefusal.{MountRefusal}
use Rattle.hfs_serving.proofs.Judging.{judged_found, judged_refused}
use Rattle.hfs_serving.proofs.checking.judge_image.Goals as goal

pub returns-clause-found : goal.returns-clause-found
returns-clause-found g c tells =
    let image = content (g.D.SectorDisk.state c.args.disk.now) in
    subst (λ (r : Result Plan MountRefusal). IfOk r (IsFound image)) (sym c.judged.ensures)
    (judged_found image c.args.plan (g.C.Checker.findings c.check_image.new.checker) (c.requires.opened tells) c.in_ok-verdict.verdict (c.in_ok-verdict.ensures.verdict tells))

pub returns-clause-refused : goal.returns-clause-refused
returns-clause-refused g c tells =
    let image = content (g.D.SectorDisk.state c.args.disk.now) in
    let findings = g.C.Checker.findings c.check_image.new.checker in
    subst (λ (r : Result Plan MountRefusal). IfErr r (RefusesMount image findings)) (sym c.judged.ensures)
    (judged_refused image c.args.plan findings (c.requires.opened tells) c.in_ok-verdict.verdict (c.in_ok-verdict.ensures.verdict tells))
