use Rattle.std.proofs.Common.{sym, ◌∙◌}
use Rattle.volume_space.proofs.HeldUp.{held_drop}
use Rattle.volume_space.proofs.tidying.lacks_drop.Goals as goal

pub returns : goal.returns
returns g c = record {
  held_up = λ tells is id. held_drop c.args.volume.now (g.P.SectorView.space c.args.space.now).content (c.requires.serves.settled tells) c.cost_of_drop.result (c.cost_of_drop.ensures tells) (sym c.is_refused.ensures ∙ is) id;
}
