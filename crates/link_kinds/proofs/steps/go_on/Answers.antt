use Rattle.std.proofs.Common.{ap, ◌∙◌}
use Rattle.link_kinds.specs.Walks.{leads_to}
use Rattle.link_kinds.proofs.steps.go_on.Goals as goal

pub returns-clause-leads : goal.returns-clause-leads
returns-clause-leads c = λ look. ap (leads_to look) c.at_end.ensures ∙ c.in_ok-next.ensures.leads look c.args.more
