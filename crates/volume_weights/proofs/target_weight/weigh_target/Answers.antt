use Rattle.std.proofs.Common.{◌≡◌, true, sym, ◌∙◌, arith}
use Rattle.std.proofs.lemmas.Bool.{true≢false}
use Rattle.volume_base.specs.Room.{capacity_of}
use Rattle.volume_base.specs.Weighing.{joined}
use Rattle.volume_weights.proofs.DataNeeds.{usual_told}
use Rattle.volume_weights.proofs.TargetNeeds.{all_costs, takable_costs}
use Rattle.volume_weights.proofs.target_weight.weigh_target.Goals as goal

pub returns : goal.returns
returns g c = record {
  exact = λ tells.
      let content = (g.P.SectorView.space c.args.space.now).content in
      c.joined.ensures ∙ (λ i. joined
      (all_costs c.args.volume.now content (c.requires.serves.settled tells) c.args.long (capacity_of c.args.volume.now) c.cost_of_link-all.result (c.cost_of_link-all.ensures.exact tells) i)
      (takable_costs c.args.volume.now content (c.requires.serves.settled tells) c.args.long (capacity_of c.args.volume.now) c.cost_of_link-takable.result (c.cost_of_link-takable.ensures.exact tells) i));
}

pub returns-then-not-are_usual : goal.returns-then-not-are_usual
returns-then-not-are_usual g c = record {
  exact = λ tells.
      absurd (true≢false (sym (usual_told c.args.volume.now (g.P.SectorView.space c.args.space.now) (c.requires.serves.stands.stands tells) (c.requires.serves.settled tells) (record { id = c.args.volume.now.header.next_catalog_id; old_size = 0; from = 0; end = c.args.long }) (omega arith) c.requires.few)
      ∙ sym c.are_usual.ensures ∙ c.if-not-are_usual.true));
}
