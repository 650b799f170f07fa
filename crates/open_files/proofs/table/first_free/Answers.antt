use Rattle.std.proofs.Common.{◌≡◌, ◌+◌, ◌-◌, false, ap, sym, ◌∙◌, arith}
use Rattle.open_files.specs.Handles.{first_free, is_open}
use Rattle.open_files.proofs.Firsts.{handle_free, handle_none}
use Rattle.open_files.proofs.table.first_free.Goals as goal

pub returns-then-not-is_open-clause-value : goal.returns-then-not-is_open-clause-value
returns-then-not-is_open-clause-value c =
    let free : is_open c.args.files.now c.args.session c.loop-left.handle ≡ false = sym c.is_open.ensures ∙ c.if-not-is_open.true in
    let one : c.loop-left.left - 1 + 1 ≡ c.loop-left.left = omega arith in
    sym (handle_free c.args.files.now c.args.session (c.loop-left.left - 1) c.loop-left.handle free) ∙ ap (λ n. first_free c.args.files.now c.args.session n c.loop-left.handle) one
    ∙ c.loop-left.invariant.same

pub returns-clause-value : goal.returns-clause-value
returns-clause-value c =
    let none : 0 ≡ c.loop-left.left = omega arith in
    sym (handle_none c.args.files.now c.args.session c.loop-left.handle) ∙ ap (λ n. first_free c.args.files.now c.args.session n c.loop-left.handle) none ∙ c.loop-left.invariant.same
