use Rattle.std.proofs.Common.{◌≡◌, ◌-◌, ap, ◌∙◌, rules, List, take, drop, length, ℕ}
use Rattle.hx_bytes.specs.declared.extents.Extent.{Extent}
use Rattle.fork_map.specs.Blocks.{blocks_of}
use Rattle.fork_map.specs.Cut.{front, back}
use Rattle.fork_map.proofs.Laws.{blocks-front, blocks-back}
use Rattle.fork_map.proofs.list.ExtentList.cut_tail.Goals as goal

cut : (es kept tail : List Extent) (n : ℕ) → (kept ≡ front n es) × (tail ≡ back n es) → (blocks_of kept ≡ take n (blocks_of es)) × (blocks_of tail ≡ drop n (blocks_of es))
cut es kept tail n is = (ap (λ (l : List Extent). blocks_of l) is.0 ∙ blocks-front n es, ap (λ (l : List Extent). blocks_of l) is.1 ∙ blocks-back n es)

pub returns-clause-extents : goal.returns-clause-extents
returns-clause-extents c = search rules

pub returns-clause-blocks : goal.returns-clause-blocks
returns-clause-blocks c = cut c.args.self.now _ _ (length (blocks_of c.args.self.now) - c.args.blocks) (returns-clause-extents c)
