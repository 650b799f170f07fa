use Rattle.std.proofs.Common.{◌+◌, ℕ, get_or, ◌∙◌}
use Rattle.volume_cost.proofs.JudgeLaws.{cost_is}
use Rattle.volume_cost.proofs.costing.cost.Goals as goal

pub returns : goal.returns
returns c =
    let own : ℕ = get_or c.args.needs.now.edits 0 0 in
    c.judge.ensures ∙ cost_is c.args.needs.now c.args.room.now c.growth_at-catalog.result c.growth_at-attributes.result (own + c.extents_taken.result + c.extents_taken-2.result) c.growth_at-extents.result
    c.growth_at-catalog.ensures.growth c.growth_at-attributes.ensures.growth (λ i. own + c.extents_taken.ensures.count i + c.extents_taken-2.ensures.count i) c.growth_at-extents.ensures.growth
