use Rattle.std.proofs.Common.{◌≡◌, ℕ, codes, refl, rules, subst}
use Rattle.std.specs.Prelude.{decimal}
use Rattle.std.proofs.lemmas.Result.{err_from_is_err_and}
use Rattle.hfsx_server.specs.Telling.{Telling}
use Rattle.hfsx_server.proofs.Telling.{telling_both, telling_failed}
use Rattle.hfsx_server.proofs.reports.tell_rule.Goals as goal

pub returns-in_err-tell_piece : goal.returns-in_err-tell_piece
returns-in_err-tell_piece g c =
    let p = err_from_is_err_and c.from_residual.result c.from_residual.ensures.1 in
    telling_failed (g.R.SectorDisk.state c.args.rig.now) (g.R.SectorDisk.state c.tell_piece.new.rig) (codes "S") (decimal c.args.rule) _ c.from_residual.result _ p.0 refl p.1 c.in_err-tell_piece.ensures

pub returns : goal.returns
returns g c =
    let s0 = g.R.SectorDisk.state c.args.rig.now in
    let s1 = g.R.SectorDisk.state c.tell_piece.new.rig in
    let s2 = g.R.SectorDisk.state c.tell_decimal.new.rig in
    let number : c.from.result ≡ c.args.rule = search rules in
    telling_both s0 s1 s2 (codes "S") (decimal c.args.rule) _ c.tell_decimal.result _ refl c.in_ok-tell_piece.ensures (subst (λ (n : ℕ). Telling s1 s2 (decimal n) c.tell_decimal.result) number c.tell_decimal.ensures)
