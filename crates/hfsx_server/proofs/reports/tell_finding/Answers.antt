use Rattle.std.proofs.Common.{◌++◌, ◌∷◌, [], ℕ, codes, refl}
use Rattle.std.specs.Prelude.{decimal}
use Rattle.std.proofs.lemmas.Result.{err_from_is_err_and}
use Rattle.hfs_language.specs.Text.{fields}
use Rattle.hfsx_server.proofs.Telling.{telling_both, telling_failed}
use Rattle.hfsx_server.proofs.reports.tell_finding.Goals as goal

pub returns-in_err-tell_rule : goal.returns-in_err-tell_rule
returns-in_err-tell_rule g c =
    let s0 = g.R.SectorDisk.state c.args.rig.now in
    let s1 = g.R.SectorDisk.state c.tell_rule.new.rig in
    let f = c.args.finding.now in
    let first = codes "S" ++ decimal f.rule in
    let numbers = fields (f.place ∷ f.found ∷ f.wanted ∷ []) in
    let p = err_from_is_err_and c.from_residual.result c.from_residual.ensures.1 in
    telling_failed {T = ℕ} s0 s1 (first ++ numbers) (codes "\n") _ c.from_residual.result _ p.0 refl p.1 (telling_failed {U = ℕ} s0 s1 first numbers _ _ _ _ refl refl c.in_err-tell_rule.ensures)

pub returns-in_err-tell_numbers : goal.returns-in_err-tell_numbers
returns-in_err-tell_numbers g c =
    let s0 = g.R.SectorDisk.state c.args.rig.now in
    let s1 = g.R.SectorDisk.state c.tell_rule.new.rig in
    let s2 = g.R.SectorDisk.state c.tell_numbers.new.rig in
    let f = c.args.finding.now in
    let first = codes "S" ++ decimal f.rule in
    let numbers = fields (f.place ∷ f.found ∷ f.wanted ∷ []) in
    let r = c.from_residual-in_err-tell_numbers.result in
    let p = err_from_is_err_and r c.from_residual-in_err-tell_numbers.ensures.1 in
    telling_failed s0 s2 (first ++ numbers) (codes "\n") _ r _ p.0 refl p.1 (telling_both s0 s1 s2 first numbers _ _ _ refl c.in_ok-tell_rule.ensures c.in_err-tell_numbers.ensures)

pub returns : goal.returns
returns g c =
    let s0 = g.R.SectorDisk.state c.args.rig.now in
    let s1 = g.R.SectorDisk.state c.tell_rule.new.rig in
    let s2 = g.R.SectorDisk.state c.tell_numbers.new.rig in
    let s3 = g.R.SectorDisk.state c.tell_piece.new.rig in
    let f = c.args.finding.now in
    let first = codes "S" ++ decimal f.rule in
    let numbers = fields (f.place ∷ f.found ∷ f.wanted ∷ []) in
    telling_both s0 s2 s3 (first ++ numbers) (codes "\n") _ c.tell_piece.result _ refl (telling_both s0 s1 s2 first numbers _ _ _ refl c.in_ok-tell_rule.ensures c.in_ok-tell_numbers.ensures) c.tell_piece.ensures
