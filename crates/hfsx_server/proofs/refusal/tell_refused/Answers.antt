use Rattle.std.proofs.Common.{◌++◌, ℕ, codes, refl}
use Rattle.std.proofs.lemmas.Result.{err_from_is_err_and}
use Rattle.hfs_language.specs.Text.{fields}
use Rattle.hfsx_server.proofs.Telling.{telling_both, telling_failed}
use Rattle.hfsx_server.proofs.refusal.tell_refused.Goals as goal

pub returns-in_err-tell_piece : goal.returns-in_err-tell_piece
returns-in_err-tell_piece g c =
    let s0 = g.R.SectorDisk.state c.args.rig.now in
    let s1 = g.R.SectorDisk.state c.tell_piece.new.rig in
    let first = codes "refused " in
    let name = c.args.name.now in
    let numbers = fields c.args.numbers.now in
    let p = err_from_is_err_and c.from_residual.result c.from_residual.ensures.1 in
    let told = c.in_err-tell_piece.ensures in
    telling_failed {T = ℕ} s0 s1 (first ++ name ++ numbers) (codes "\n") _ c.from_residual.result _ p.0 refl p.1 (telling_failed {T = ℕ} {U = ℕ} s0 s1 (first ++ name) numbers _ _ _ _ refl refl (telling_failed {U = ℕ} s0 s1 first name _ _ _ _ refl refl told))

pub returns-in_err-tell_piece-2 : goal.returns-in_err-tell_piece-2
returns-in_err-tell_piece-2 g c =
    let s0 = g.R.SectorDisk.state c.args.rig.now in
    let s1 = g.R.SectorDisk.state c.tell_piece.new.rig in
    let s2 = g.R.SectorDisk.state c.tell_piece-2.new.rig in
    let first = codes "refused " in
    let name = c.args.name.now in
    let numbers = fields c.args.numbers.now in
    let r = c.from_residual-in_err-tell_piece-2.result in
    let p = err_from_is_err_and r c.from_residual-in_err-tell_piece-2.ensures.1 in
    let told = telling_both s0 s1 s2 first name _ _ _ refl c.in_ok-tell_piece.ensures c.in_err-tell_piece-2.ensures in
    telling_failed {T = ℕ} s0 s2 (first ++ name ++ numbers) (codes "\n") _ r _ p.0 refl p.1 (telling_failed {U = ℕ} s0 s2 (first ++ name) numbers _ _ _ _ refl refl told)

pub returns-in_err-tell_numbers : goal.returns-in_err-tell_numbers
returns-in_err-tell_numbers g c =
    let s0 = g.R.SectorDisk.state c.args.rig.now in
    let s1 = g.R.SectorDisk.state c.tell_piece.new.rig in
    let s2 = g.R.SectorDisk.state c.tell_piece-2.new.rig in
    let s3 = g.R.SectorDisk.state c.tell_numbers.new.rig in
    let first = codes "refused " in
    let name = c.args.name.now in
    let numbers = fields c.args.numbers.now in
    let r = c.from_residual-in_err-tell_numbers.result in
    let p = err_from_is_err_and r c.from_residual-in_err-tell_numbers.ensures.1 in
    let told = telling_both s0 s1 s2 first name _ _ _ refl c.in_ok-tell_piece.ensures c.in_ok-tell_piece-2.ensures in
    telling_failed s0 s3 (first ++ name ++ numbers) (codes "\n") _ r _ p.0 refl p.1 (telling_both s0 s2 s3 (first ++ name) numbers _ _ _ refl told c.in_err-tell_numbers.ensures)

pub returns : goal.returns
returns g c =
    let s0 = g.R.SectorDisk.state c.args.rig.now in
    let s1 = g.R.SectorDisk.state c.tell_piece.new.rig in
    let s2 = g.R.SectorDisk.state c.tell_piece-2.new.rig in
    let s3 = g.R.SectorDisk.state c.tell_numbers.new.rig in
    let s4 = g.R.SectorDisk.state c.tell_piece-3.new.rig in
    let first = codes "refused " in
    let name = c.args.name.now in
    let numbers = fields c.args.numbers.now in
    let told = telling_both s0 s1 s2 first name _ _ _ refl c.in_ok-tell_piece.ensures c.in_ok-tell_piece-2.ensures in
    telling_both s0 s3 s4 (first ++ name ++ numbers) (codes "\n") _ c.tell_piece-3.result _ refl (telling_both s0 s2 s3 (first ++ name) numbers _ _ _ refl told c.in_ok-tell_numbers.ensures) c.tell_piece-3.ensures
