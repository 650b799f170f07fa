use Rattle.std.proofs.Common.{List, ap, ◌∙◌}
use Rattle.std.specs.Prelude.{reverse}
use Rattle.link_kinds.specs.declared.kinds.Folder.{Folder}
use Rattle.link_kinds.specs.Resolves.{most_steps, resolve}
use Rattle.link_kinds.proofs.walk.from_root.Goals as goal

pub returns : goal.returns
returns c = λ look. c.in_ok-walk.ensures.leads look ∙ ap (λ (l : List Folder). resolve look most_steps (reverse l) (reverse c.args.left.items)) c.new-way.ensures.items
