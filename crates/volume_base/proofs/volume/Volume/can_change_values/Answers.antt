use Rattle.std.proofs.Common.{◌≡◌, ◌∙◌}
use Rattle.volume_base.specs.Fitting.{is_met}
use Rattle.volume_base.proofs.volume.Volume.can_change_values.Goals as goal

pub returns : goal.returns
returns g c tells = c.is_met.ensures ∙ (λ i. is_met (c.cost_of_values-cost.ensures.exact tells i) (c.spare.ensures i))
