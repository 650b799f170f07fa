use Rattle.std.proofs.Common.{◌∷◌, [], refl}
use Rattle.std.specs.Prelude.{decimal}
use Rattle.std.proofs.lemmas.Result.{err_from_is_err_and}
use Rattle.hfsx_server.proofs.Telling.{telling_both, telling_failed}
use Rattle.hfsx_server.proofs.refusal.tell_number.Goals as goal

pub returns-in_err-tell_piece : goal.returns-in_err-tell_piece
returns-in_err-tell_piece g c =
    let p = err_from_is_err_and c.from_residual.result c.from_residual.ensures.1 in
    telling_failed (g.R.SectorDisk.state c.args.rig.now) (g.R.SectorDisk.state c.tell_piece.new.rig) (32 ∷ []) (decimal c.args.number) _ c.from_residual.result _ p.0 refl p.1 c.in_err-tell_piece.ensures

pub returns : goal.returns
returns g c =
    telling_both (g.R.SectorDisk.state c.args.rig.now) (g.R.SectorDisk.state c.tell_piece.new.rig) (g.R.SectorDisk.state c.tell_decimal.new.rig) (32 ∷ []) (decimal c.args.number) _ c.tell_decimal.result _ refl c.in_ok-tell_piece.ensures c.tell_decimal.ensures
