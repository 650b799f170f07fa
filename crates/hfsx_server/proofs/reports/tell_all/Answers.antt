use Rattle.std.proofs.Common.{◌++◌, length, codes, refl}
use Rattle.std.specs.List.{flat_map}
use Rattle.hfs_language.specs.Text.{field}
use Rattle.hfsx_server.specs.Telling.{finding_text}
use Rattle.std.proofs.lemmas.Result.{err_from_is_err_and}
use Rattle.hfsx_server.proofs.Telling.{telling_both, telling_failed}
use Rattle.hfsx_server.proofs.reports.tell_all.Goals as goal

pub returns-in_err-tell_each : goal.returns-in_err-tell_each
returns-in_err-tell_each g c =
    let p = err_from_is_err_and c.from_residual.result c.from_residual.ensures.1 in
    telling_failed (g.R.SectorDisk.state c.args.rig.now) (g.R.SectorDisk.state c.tell_each.new.rig) (flat_map finding_text c.args.findings.now) (codes "findings" ++ field (length c.args.findings.now) ++ codes "\n") _ c.from_residual.result _ p.0 refl p.1 c.in_err-tell_each.ensures

pub returns : goal.returns
returns g c =
    telling_both (g.R.SectorDisk.state c.args.rig.now) (g.R.SectorDisk.state c.tell_each.new.rig) (g.R.SectorDisk.state c.tell_total.new.rig) (flat_map finding_text c.args.findings.now) (codes "findings" ++ field (length c.args.findings.now) ++ codes "\n") _ c.tell_total.result _ refl c.in_ok-tell_each.ensures c.tell_total.ensures
