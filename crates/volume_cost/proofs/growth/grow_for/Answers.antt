use Rattle.std.proofs.Common.{◌≡◌, ◌<◌, ◌≤◌, ◌+◌, ◌*◌, ℕ, ◌∙◌, ap, arith, ⊎_elim}
use Rattle.std.proofs.lemmas.Bool.{cases_lt}
use Rattle.hfs_volume.specs.declared.cost.TreeCost.{TreeCost}
use Rattle.hfs_volume.specs.Cost.{new_maps}
use Rattle.hfs_volume.specs.Forks.{parts_for}
use Rattle.volume_cost.proofs.GrowthLaws.{growth_found, growth_none, does_suffice, none_between, parts_above, parts_most, wanted_few}
use Rattle.volume_cost.proofs.growth.grow_for.Goals as goal

pub returns-then-wanted-more-clause-growth : goal.returns-then-wanted-more-clause-growth
returns-then-wanted-more-clause-growth c =
    let tree : TreeCost = c.args.tree.now in
    let unit : ℕ = c.nodes_of_block-unit.result in
    let least : ℕ = c.quotient_up-least.result in
    growth_found c.args.block tree c.args.lacks unit least c.loop-units.units c.nodes_of_block-unit.ensures.count
    (c.quotient_up-least.ensures ∙ ap (λ m. parts_for m unit) c.max.ensures) c.loop-units.invariant.low (omega (arith, c.loop-units-test.true)) c.loop-units.invariant.fails
    (does_suffice tree c.args.lacks (c.loop-units.units * unit) (omega (arith, c.if-wanted-more.true, c.count_maps.ensures)))

pub loop-units-preserved : goal.loop-units-preserved
loop-units-preserved c =
    let tree : TreeCost = c.args.tree.now in
    let unit : ℕ = c.nodes_of_block-unit.result in
    let units : ℕ = c.loop-units.units in
    let next : ℕ = c.quotient_up-units.result in
    let wanted : ℕ = c.args.lacks + new_maps tree (units * unit) in
    let is : next ≡ parts_for wanted unit = c.quotient_up-units.ensures ∙ ap (λ m. parts_for (c.args.lacks + m) unit) c.count_maps.ensures in
    let some : 0 < unit = c.nodes_of_block-unit.ensures.some in
    let lacking : units * unit < wanted = omega (arith, c.if-wanted-more.false, c.count_maps.ensures) in
    let above : units < next = omega (arith, parts_above wanted unit units some lacking, is) in
    record {
      low = omega (arith, c.loop-units.invariant.low, above);
      small = omega (arith, ap (λ m. m * unit) is, parts_most wanted unit some, wanted_few tree c.args.lacks (units * unit) c.requires.size lacking);
      fails = λ k low high. ⊎_elim
          (λ (before : k < units). c.loop-units.invariant.fails k low before)
          (λ (behind : units ≤ k). none_between tree c.args.lacks unit units k c.requires.size c.requires.some some behind (omega (arith, high, is)))
          (cases_lt k units);
    }

pub returns-clause-growth : goal.returns-clause-growth
returns-clause-growth c =
    let unit : ℕ = c.nodes_of_block-unit.result in
    growth_none c.args.block c.args.tree.now c.args.lacks unit c.quotient_up-least.result c.loop-units.units c.nodes_of_block-unit.ensures.count
    (c.quotient_up-least.ensures ∙ ap (λ m. parts_for m unit) c.max.ensures) (omega (arith, c.loop-units-test.false)) c.loop-units.invariant.fails
