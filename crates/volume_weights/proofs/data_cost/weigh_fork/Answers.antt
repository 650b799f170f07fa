use Rattle.std.proofs.Common.{◌≡◌, ℕ, true, false, sym, ◌∙◌, ap, subst, arith}
use Rattle.std.proofs.lemmas.Bool.{true≢false}
use Rattle.volume_base.specs.Cutting.{kind_of}
use Rattle.volume_base.specs.Room.{capacity_of}
use Rattle.volume_base.specs.Weighing.{joined}
use Rattle.volume_weights.proofs.DataNeeds.{all_costs, cut_is, extents_low, takable_costs, usual_told}
use Rattle.volume_weights.proofs.data_cost.weigh_fork.Goals as goal

pub returns-then-not-are_usual-clause-answer : goal.returns-then-not-are_usual-clause-answer
returns-then-not-are_usual-clause-answer g c tells = absurd (true≢false (sym (usual_told c.args.volume.now (g.P.SectorView.space c.args.space.now) (c.requires.serves.stands.stands tells) (c.requires.serves.settled tells) c.args.put (c.requires.old tells) c.requires.end) ∙ sym c.are_usual.ensures ∙ c.if-not-are_usual.true))

pub returns-then-not-are_usual-clause-no_cut : goal.returns-then-not-are_usual-clause-no_cut
returns-then-not-are_usual-clause-no_cut g c tells some = absurd (true≢false (sym (usual_told c.args.volume.now (g.P.SectorView.space c.args.space.now) (c.requires.serves.stands.stands tells) (c.requires.serves.settled tells) c.args.put (c.requires.old tells) c.requires.end) ∙ sym c.are_usual.ensures ∙ c.if-not-are_usual.true))

pub returns-then-has_more-clause-waits : goal.returns-then-has_more-clause-waits
returns-then-has_more-clause-waits g c tells none =
    sym (cut_is (kind_of c.args._kind) c.args.volume.now (g.P.SectorView.space c.args.space.now).content (c.requires.serves.settled tells) c.args.put c.args.held (c.requires.held tells)) ∙ sym c.has_more.ensures ∙ c.if-has_more.true

pub returns-clause-answer : goal.returns-clause-answer
returns-clause-answer g c tells =
    let few = extents_low (kind_of c.args._kind) c.args.volume.now (g.P.SectorView.space c.args.space.now).content (c.requires.serves.settled tells) c.args.put c.args.held (c.requires.held tells) (omega (arith, c.ranges.held.fits)) in
    c.joined.ensures ∙ (λ i. joined
    (all_costs (kind_of c.args._kind) c.args.volume.now (g.P.SectorView.space c.args.space.now).content (c.requires.serves.settled tells) c.args.put (capacity_of c.args.volume.now) c.args.extents (c.requires.extents tells) few c.cost_of_put-all.result (c.cost_of_put-all.ensures.exact tells) i)
    (takable_costs (kind_of c.args._kind) c.args.volume.now (g.P.SectorView.space c.args.space.now).content (c.requires.serves.settled tells) c.args.put (capacity_of c.args.volume.now) c.args.extents (c.requires.extents tells) few c.cost_of_put-takable.result (c.cost_of_put-takable.ensures.exact tells) i))

pub returns-clause-no_cut : goal.returns-clause-no_cut
returns-clause-no_cut g c tells some = sym (cut_is (kind_of c.args._kind) c.args.volume.now (g.P.SectorView.space c.args.space.now).content (c.requires.serves.settled tells) c.args.put c.args.held (c.requires.held tells)) ∙ sym c.has_more.ensures ∙ c.if-has_more.false
