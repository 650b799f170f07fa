use Rattle.std.proofs.Common.{◌++◌, codes, refl}
use Rattle.std.proofs.lemmas.Result.{err_from_is_err_and}
use Rattle.hfs_language.specs.Text.{field}
use Rattle.hfsx_server.proofs.Telling.{telling_both, telling_failed}
use Rattle.hfsx_server.proofs.reports.tell_formatted.Goals as goal

pub returns-in_err-tell_count : goal.returns-in_err-tell_count
returns-in_err-tell_count g c =
    let p = err_from_is_err_and c.from_residual.result c.from_residual.ensures.1 in
    telling_failed (g.R.SectorDisk.state c.args.rig.now) (g.R.SectorDisk.state c.tell_count.new.rig) (codes "formatted" ++ field c.args.summary.blocks) (codes " blocks," ++ field c.args.summary.free ++ codes " free\n") _ c.from_residual.result _ p.0 refl p.1 c.in_err-tell_count.ensures

pub returns : goal.returns
returns g c =
    telling_both (g.R.SectorDisk.state c.args.rig.now) (g.R.SectorDisk.state c.tell_count.new.rig) (g.R.SectorDisk.state c.tell_last.new.rig) (codes "formatted" ++ field c.args.summary.blocks) (codes " blocks," ++ field c.args.summary.free ++ codes " free\n") _ c.tell_last.result _ refl c.in_ok-tell_count.ensures c.tell_last.ensures
