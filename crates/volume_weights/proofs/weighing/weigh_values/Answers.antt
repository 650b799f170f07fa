use Rattle.std.proofs.Common.{◌≡◌, refl, sym, ◌∙◌, ap}
use Rattle.hfs_volume.specs.Content.{volume_of}
use Rattle.hfs_volume.specs.Cost.{cost_of}
use Rattle.hfs_volume.specs.Weight.{room_with}
use Rattle.volume_base.specs.Weighing.{joined, needs_valued}
use Rattle.volume_base.proofs.RoomKept.{free_content}
use Rattle.volume_weights.proofs.weighing.weigh_values.Goals as goal

pub returns : goal.returns
returns g c = record {
  exact = λ tells.
      let free = free_content c.args.volume.now (g.P.SectorView.space c.args.space.now).content (c.requires.serves.settled tells) in
      c.joined.ensures ∙ (λ i. joined
      ((c.cost_of_values-all.ensures.exact tells ∙ (λ k. cost_of (needs_valued (free k) c.args.edits c.args.change) (room_with c.args.volume.now.capacity (free k) (volume_of (g.P.SectorView.space c.args.space.now).content)))) i)
      (c.cost_of_values-takable.ensures.exact tells i));
}
