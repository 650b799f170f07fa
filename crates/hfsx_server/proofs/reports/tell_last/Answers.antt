use Rattle.std.proofs.Common.{◌++◌, refl}
use Rattle.std.proofs.lemmas.Result.{err_from_is_err_and}
use Rattle.hfs_language.specs.Text.{field}
use Rattle.hfsx_server.proofs.Telling.{telling_both, telling_failed}
use Rattle.hfsx_server.proofs.reports.tell_last.Goals as goal

pub returns-in_err-tell_count : goal.returns-in_err-tell_count
returns-in_err-tell_count g c =
    let p = err_from_is_err_and c.from_residual.result c.from_residual.ensures.1 in
    telling_failed (g.R.SectorDisk.state c.args.rig.now) (g.R.SectorDisk.state c.tell_count.new.rig) (c.args.word.now ++ field c.args.number) c.args.end.now _ c.from_residual.result _ p.0 refl p.1 c.in_err-tell_count.ensures

pub returns : goal.returns
returns g c =
    telling_both (g.R.SectorDisk.state c.args.rig.now) (g.R.SectorDisk.state c.tell_count.new.rig) (g.R.SectorDisk.state c.tell_piece.new.rig) (c.args.word.now ++ field c.args.number) c.args.end.now _ c.tell_piece.result _ refl c.in_ok-tell_count.ensures c.tell_piece.ensures
