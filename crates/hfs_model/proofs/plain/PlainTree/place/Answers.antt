use Rattle.std.proofs.Common.{rules, sym, ◌∙◌}
use Rattle.hfs_model.proofs.Below.{place-last}
use Rattle.hfs_model.proofs.plain.PlainTree.place.Goals as goal

pub returns-in_err-at-in-Some : goal.returns-in_err-at-in-Some
returns-in_err-at-in-Some c =
    let e = place-last c.args.self.now c.args.path.now c.in-Some.above.now c.in-Some.name.now c.in-Some.ensures.cases.0 in
    search rules

pub returns-then-not-at : goal.returns-then-not-at
returns-then-not-at c =
    let e = place-last c.args.self.now c.args.path.now c.in-Some.above.now c.in-Some.name.now c.in-Some.ensures.cases.0 in
    search rules

pub returns-else-not-at : goal.returns-else-not-at
returns-else-not-at c =
    let e = place-last c.args.self.now c.args.path.now c.in-Some.above.now c.in-Some.name.now c.in-Some.ensures.cases.0 in
    search rules
