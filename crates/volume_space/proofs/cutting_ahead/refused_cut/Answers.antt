use Rattle.std.proofs.Common.{◌∙◌, ap}
use Rattle.hfs_volume.specs.Weight.{cut_cost}
use Rattle.volume_space.proofs.CutShort.{cut_fine}
use Rattle.volume_space.proofs.PastSizes.{cut_refused}
use Rattle.volume_space.proofs.cutting_ahead.refused_cut.Goals as goal

pub returns-clause-some : goal.returns-clause-some
returns-clause-some c content settled = cut_refused c.args.volume.now content settled c.refusal_in.result c.cut_cost.result (c.cut_cost.ensures ∙ ap cut_cost c.room.ensures) c.refusal_in.ensures.some

pub returns-clause-none : goal.returns-clause-none
returns-clause-none c content settled = cut_fine c.args.volume.now content settled c.refusal_in.result c.cut_cost.result (c.cut_cost.ensures ∙ ap cut_cost c.room.ensures) c.refusal_in.ensures.none
