use Rattle.std.proofs.Common.{sym, ◌∙◌}
use Rattle.volume_space.proofs.Affording.{affords_bare_by}
use Rattle.volume_space.proofs.stripping.affords_bare.Goals as goal

pub returns : goal.returns
returns g c = record {
  affords = λ tells is id name. affords_bare_by c.args.volume.now (g.P.SectorView.space c.args.space.now).content (c.requires.serves.settled tells) c.args.change c.cost_of_bare.result (c.cost_of_bare.ensures tells) (sym c.grows_none.ensures ∙ is) id name;
}
