use Rattle.std.proofs.Common.{[], ap, ◌∙◌}
use Rattle.link_kinds.specs.Resolves.{most_steps, resolve}
use Rattle.link_kinds.proofs.walk.Walk.new.Goals as goal

pub returns : goal.returns
returns c = λ look. c.in_ok-walk.ensures look ∙ ap (resolve look most_steps []) (c.in_ok-left.ensures ∙ c.as_slice.ensures)
