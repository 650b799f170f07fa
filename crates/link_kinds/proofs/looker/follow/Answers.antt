use Rattle.std.proofs.Common.{◌≡◌, [], subst}
use Rattle.std.specs.Prelude.{IfOk}
use Rattle.link_kinds.specs.Resolves.{most_steps, resolve}
use Rattle.link_kinds.proofs.Fronts.{front_resolves}
use Rattle.link_kinds.proofs.looker.follow.Goals as goal

pub returns-clause-leads : goal.returns-clause-leads
returns-clause-leads g c = λ tells.
    subst (λ end. IfOk c.walk_along.result (λ answer. answer ≡ end)) (front_resolves (g.L.Looker.state c.args.looker.now).sight most_steps [] c.args.path.now) (c.walk_along.ensures.leads tells)

pub returns-clause-tree : goal.returns-clause-tree
returns-clause-tree g c = λ tells tree same.
    subst (λ sight. IfOk c.walk_along.result (λ answer. answer ≡ resolve sight most_steps [] c.args.path.now)) same
    (subst (λ end. IfOk c.walk_along.result (λ answer. answer ≡ end)) (front_resolves (g.L.Looker.state c.args.looker.now).sight most_steps [] c.args.path.now) (c.walk_along.ensures.leads tells))
