use Rattle.std.proofs.Common.{◌≡◌, ◌<◌, ◌≤◌, ◌-◌, ℕ, List, length, get_or, sym, ◌∙◌, ap, subst, arith}
use Rattle.std.specs.Prelude.{slice_get}
use Rattle.std.proofs.lemmas.Grind.{get_or_default_zero}
use Rattle.hx_bytes.specs.declared.extents.Extent.{Extent}
use Rattle.fork_map.specs.Blocks.{blocks_of}
use Rattle.fork_map.specs.Sums.{AreSums}
use Rattle.fork_map.proofs.SumLaws.{found_there, none_there}
use Rattle.fork_map.proofs.summed.SummedFork.block_at.Goals as goal

pub returns-then-offset-extent-clause-block : goal.returns-then-offset-extent-clause-block
returns-then-offset-extent-clause-block c =
    let d : Extent = record { start = 0; count = 0 } in
    let sums : List ℕ = c.self.inside.sums.items in
    let count : ℕ = c.count_at_most-count.result in
    let list : c.as_slice-extents.result.now ≡ c.self.inside.list = c.as_slice-extents.ensures in
    let are : AreSums c.as_slice-extents.result.now sums = subst (λ (l : List Extent). AreSums l sums) (sym list) c.self.invariant in
    let some : 0 < count = omega (arith, c.if-count-eq0.false) in
    let within : count ≤ length sums = omega (arith, c.count_at_most-count.ensures.within, ap (λ (l : List ℕ). length l) c.deref.ensures.value) in
    let read : c.index.result.now ≡ get_or sums (count - 1) 0 = c.index.ensures ∙ get_or_default_zero sums (count - 1) c.index.result.now (omega (arith, some, within)) in
    let below : get_or sums (count - 1) 0 ≤ c.args.n = subst (λ (l : List ℕ). get_or l (count - 1) 0 ≤ c.args.n) c.deref.ensures.value (c.count_at_most-count.ensures.below some) in
    found_there c.as_slice-extents.result.now sums count c.args.n c.index.result.now d are some within read below c.if-offset-extent.true ∙ ap (λ (l : List Extent). slice_get (blocks_of l) c.args.n) (list ∙ c.self.view_is)

pub returns-else-offset-extent-clause-block : goal.returns-else-offset-extent-clause-block
returns-else-offset-extent-clause-block c =
    let d : Extent = record { start = 0; count = 0 } in
    let sums : List ℕ = c.self.inside.sums.items in
    let count : ℕ = c.count_at_most-count.result in
    let list : c.as_slice-extents.result.now ≡ c.self.inside.list = c.as_slice-extents.ensures in
    let are : AreSums c.as_slice-extents.result.now sums = subst (λ (l : List Extent). AreSums l sums) (sym list) c.self.invariant in
    let some : 0 < count = omega (arith, c.if-count-eq0.false) in
    let within : count ≤ length sums = omega (arith, c.count_at_most-count.ensures.within, ap (λ (l : List ℕ). length l) c.deref.ensures.value) in
    let read : c.index.result.now ≡ get_or sums (count - 1) 0 = c.index.ensures ∙ get_or_default_zero sums (count - 1) c.index.result.now (omega (arith, some, within)) in
    let below : get_or sums (count - 1) 0 ≤ c.args.n = subst (λ (l : List ℕ). get_or l (count - 1) 0 ≤ c.args.n) c.deref.ensures.value (c.count_at_most-count.ensures.below some) in
    let above : count < length sums → c.args.n < get_or sums count 0 = subst (λ (l : List ℕ). count < length l → c.args.n < get_or l count 0) c.deref.ensures.value c.count_at_most-count.ensures.above in
    none_there c.as_slice-extents.result.now sums count c.args.n c.index.result.now d are some within read below c.if-offset-extent.false above ∙ ap (λ (l : List Extent). slice_get (blocks_of l) c.args.n) (list ∙ c.self.view_is)
