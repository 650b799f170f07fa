use Rattle.std.proofs.Common.{◌≡◌, ap, ◌∙◌, rules, List, take, drop, ◌++◌, ℕ}
use Rattle.hx_bytes.specs.declared.extents.Extent.{Extent}
use Rattle.fork_map.specs.Blocks.{blocks_of}
use Rattle.fork_map.specs.Cut.{front, back, join}
use Rattle.fork_map.proofs.Laws.{blocks-join, blocks-front, blocks-back}
use Rattle.fork_map.proofs.list.ExtentList.replace.Goals as goal

replaced : (es fs ls : List Extent) (from to : ℕ) → ls ≡ join (join (front from es) fs) (back to es) → blocks_of ls ≡ take from (blocks_of es) ++ blocks_of fs ++ drop to (blocks_of es)
replaced es fs ls from to is = ap (λ (l : List Extent). blocks_of l) is ∙ blocks-join (join (front from es) fs) (back to es) ∙ ap (λ (l : List ℕ). l ++ blocks_of (back to es)) (blocks-join (front from es) fs ∙ ap (λ (l : List ℕ). l ++ blocks_of fs) (blocks-front from es)) ∙ ap (λ (l : List ℕ). take from (blocks_of es) ++ blocks_of fs ++ l) (blocks-back to es)

pub returns-clause-extents : goal.returns-clause-extents
returns-clause-extents c = search rules

pub returns-clause-blocks : goal.returns-clause-blocks
returns-clause-blocks c = replaced c.args.self.now c.args.with.now _ c.args.from c.args.to (returns-clause-extents c)
