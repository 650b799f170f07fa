use Rattle.std.proofs.Common.{◌≡◌, ◌<◌, ℕ, List, length, take, sym, subst, arith}
use Rattle.std.proofs.lemmas.List.{take_all}
use Rattle.std.proofs.lemmas.Result.{err_from_is_err_and}
use Rattle.hfs_language.specs.Text.{field, fields}
use Rattle.hfsx_server.proofs.Telling.{ToldAll, told_nothing, told_next, told_failed, told_whole, take_nothing}
use Rattle.hfsx_server.proofs.refusal.tell_numbers.Goals as goal

pub loop-number-init : goal.loop-number-init
loop-number-init g c =
    let old = g.R.SectorDisk.state c.args.rig.now in
    subst (λ (l : List ℕ). ToldAll old old (fields l)) (sym (take_nothing c.args.numbers.now)) (told_nothing old)

pub loop-number-preserved : goal.loop-number-preserved
loop-number-preserved g c =
    let inside : c.loop-number.number-index < length c.args.numbers.now = omega arith in
    told_next field 0 (g.R.SectorDisk.state c.args.rig.now) (g.R.SectorDisk.state c.loop-number.rig) (g.R.SectorDisk.state c.tell_number.new.rig) c.args.numbers.now c.loop-number.number-index _ inside c.loop-number.invariant c.in_ok-tell_number.ensures

pub returns-in_err-tell_number : goal.returns-in_err-tell_number
returns-in_err-tell_number g c =
    let inside : c.loop-number.number-index < length c.args.numbers.now = omega arith in
    let p = err_from_is_err_and c.from_residual.result c.from_residual.ensures.1 in
    told_failed field 0 (g.R.SectorDisk.state c.args.rig.now) (g.R.SectorDisk.state c.loop-number.rig) (g.R.SectorDisk.state c.tell_number.new.rig) c.args.numbers.now c.loop-number.number-index _ p.0 c.from_residual.result inside p.1
    c.loop-number.invariant c.in_err-tell_number.ensures

pub returns : goal.returns
returns g c =
    let all : take c.loop-number.number-index c.args.numbers.now ≡ c.args.numbers.now = take_all c.loop-number.number-index c.args.numbers.now (omega arith) in
    told_whole field 0 (g.R.SectorDisk.state c.args.rig.now) (g.R.SectorDisk.state c.loop-number.rig) c.args.numbers.now c.loop-number.number-index _ all c.loop-number.invariant
