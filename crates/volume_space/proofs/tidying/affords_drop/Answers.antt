use Rattle.std.proofs.Common.{sym, ◌∙◌}
use Rattle.volume_space.proofs.Affording.{affords_by}
use Rattle.volume_space.proofs.tidying.affords_drop.Goals as goal

pub returns : goal.returns
returns g c = record {
  affords = λ tells is id. affords_by c.args.volume.now (g.P.SectorView.space c.args.space.now).content (c.requires.serves.settled tells) c.cost_of_drop.result (c.cost_of_drop.ensures tells) (sym c.grows_none.ensures ∙ is) id;
}
