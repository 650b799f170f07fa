use Rattle.std.proofs.Common.{sym, ◌∙◌, arith, List, ℕ, length, drop, ◌<◌}
use Rattle.std.proofs.lemmas.List.{at_drop_all, length-drop}
use borrow.Author.Tests.{leb-true, leb-false}
use Rattle.hfs_model.specs.Step.{is_below}
use Rattle.hfs_model.proofs.Below.{not_longer, below_none}
use Rattle.volume_base.proofs.moving.is_below.Goals as goal

pub returns-then-path-top : goal.returns-then-path-top
returns-then-path-top c = sym (not_longer c.args.path.now c.args.top.now (omega (arith, leb-true)))

pub returns : goal.returns
returns c =
    let rest : 0 < length (drop c.loop-at.at c.args.path.now) = omega (arith, leb-false, length-drop c.loop-at.at c.args.path.now) in
    sym (c.loop-at.invariant ∙ at_drop_all (λ (l : List (List ℕ)). is_below (drop c.loop-at.at c.args.path.now) l) c.args.top.now c.loop-at.at c.loop-at-test.false ∙ below_none (drop c.loop-at.at c.args.path.now) rest)
