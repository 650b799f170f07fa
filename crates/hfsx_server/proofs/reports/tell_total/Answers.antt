use Rattle.std.proofs.Common.{◌++◌, ℕ, codes, refl}
use Rattle.std.proofs.lemmas.Result.{err_from_is_err_and}
use Rattle.hfs_language.specs.Text.{field}
use Rattle.hfsx_server.proofs.Telling.{telling_both, telling_failed}
use Rattle.hfsx_server.proofs.reports.tell_total.Goals as goal

pub returns-in_err-tell_piece : goal.returns-in_err-tell_piece
returns-in_err-tell_piece g c =
    let s0 = g.R.SectorDisk.state c.args.rig.now in
    let s1 = g.R.SectorDisk.state c.tell_piece.new.rig in
    let first = codes "findings" in
    let count = field c.args.count in
    let p = err_from_is_err_and c.from_residual.result c.from_residual.ensures.1 in
    telling_failed {T = ℕ} s0 s1 (first ++ count) (codes "\n") _ c.from_residual.result _ p.0 refl p.1 (telling_failed {U = ℕ} s0 s1 first count _ _ _ _ refl refl c.in_err-tell_piece.ensures)

pub returns-in_err-tell_number : goal.returns-in_err-tell_number
returns-in_err-tell_number g c =
    let s0 = g.R.SectorDisk.state c.args.rig.now in
    let s1 = g.R.SectorDisk.state c.tell_piece.new.rig in
    let s2 = g.R.SectorDisk.state c.tell_number.new.rig in
    let first = codes "findings" in
    let count = field c.args.count in
    let r = c.from_residual-in_err-tell_number.result in
    let p = err_from_is_err_and r c.from_residual-in_err-tell_number.ensures.1 in
    telling_failed s0 s2 (first ++ count) (codes "\n") _ r _ p.0 refl p.1 (telling_both s0 s1 s2 first count _ _ _ refl c.in_ok-tell_piece.ensures c.in_err-tell_number.ensures)

pub returns : goal.returns
returns g c =
    let s0 = g.R.SectorDisk.state c.args.rig.now in
    let s1 = g.R.SectorDisk.state c.tell_piece.new.rig in
    let s2 = g.R.SectorDisk.state c.tell_number.new.rig in
    let s3 = g.R.SectorDisk.state c.tell_piece-2.new.rig in
    let first = codes "findings" in
    let count = field c.args.count in
    telling_both s0 s2 s3 (first ++ count) (codes "\n") _ c.tell_piece-2.result _ refl (telling_both s0 s1 s2 first count _ _ _ refl c.in_ok-tell_piece.ensures c.in_ok-tell_number.ensures) c.tell_piece-2.ensures
