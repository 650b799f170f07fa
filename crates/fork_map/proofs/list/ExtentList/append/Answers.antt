use Rattle.std.proofs.Common.{ap, rules, ◌∙◌, List}
use Rattle.hx_bytes.specs.declared.extents.Extent.{Extent}
use Rattle.fork_map.specs.Blocks.{blocks_of}
use Rattle.fork_map.proofs.Laws.{blocks-join}
use Rattle.fork_map.proofs.list.ExtentList.append.Goals as goal

pub returns-clause-extents : goal.returns-clause-extents
returns-clause-extents c = search rules

pub returns-clause-blocks : goal.returns-clause-blocks
returns-clause-blocks c = ap (λ (l : List Extent). blocks_of l) (returns-clause-extents c) ∙ blocks-join c.args.self.now c.args.more.now
