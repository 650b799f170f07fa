use Rattle.std.proofs.Common.{sym, ◌∙◌}
use Rattle.volume_space.proofs.HeldUp.{held_bare}
use Rattle.volume_space.proofs.stripping.lacks_bare.Goals as goal

pub returns : goal.returns
returns g c = record {
  held_up = λ tells is id name. held_bare c.args.volume.now (g.P.SectorView.space c.args.space.now).content (c.requires.serves.settled tells) c.args.change c.cost_of_bare.result (c.cost_of_bare.ensures tells) (sym c.is_refused.ensures ∙ is) id name;
}
