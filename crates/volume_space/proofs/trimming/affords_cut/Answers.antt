use Rattle.std.proofs.Common.{◌≡◌, sym, ◌∙◌, ap}
use Rattle.hfs_volume.specs.Weight.{cut_cost}
use Rattle.volume_space.proofs.Affording.{affords_cut_by}
use Rattle.volume_space.proofs.HeldUp.{refuses_cut}
use Rattle.volume_space.proofs.trimming.affords_cut.Goals as goal

pub returns-clause-affords : goal.returns-clause-affords
returns-clause-affords c content settled is =
    affords_cut_by c.args.volume.now content settled c.cut_cost.result (c.cut_cost.ensures ∙ ap cut_cost c.room.ensures) (sym c.grows_none.ensures ∙ is)

pub returns-clause-refused : goal.returns-clause-refused
returns-clause-refused c content settled is =
    refuses_cut c.args.volume.now content settled c.cut_cost.result (c.cut_cost.ensures ∙ ap cut_cost c.room.ensures) (sym c.grows_none.ensures ∙ is)
