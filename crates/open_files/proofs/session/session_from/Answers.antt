use Rattle.std.proofs.Common.{◌≡◌, ◌+◌, ◌-◌, ap, sym, ◌∙◌, arith}
use Rattle.open_files.specs.Sessions.{session_from}
use Rattle.open_files.proofs.Firsts.{session_found, session_none}
use Rattle.open_files.proofs.session.session_from.Goals as goal

pub returns-in-Some-clause-part : goal.returns-in-Some-clause-part
returns-in-Some-clause-part c =
    let one : c.loop-left.left ≡ c.loop-left.left - 1 + 1 = omega arith in
    sym c.loop-left.invariant.same ∙ ap (λ n. session_from c.args.line.now n c.loop-left.number) one
    ∙ session_found c.args.line.now (c.loop-left.left - 1) c.loop-left.number c.in-Some.rest.now c.in-Some.ensures.rest

pub returns-clause-none : goal.returns-clause-none
returns-clause-none c =
    let none : c.loop-left.left ≡ 0 = omega arith in
    sym c.loop-left.invariant.same ∙ ap (λ n. session_from c.args.line.now n c.loop-left.number) none ∙ session_none c.args.line.now c.loop-left.number
