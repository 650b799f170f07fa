use Rattle.std.proofs.Common.{◌≡◌, ◌<◌, ◌≤◌, true, refl, sym, ◌∙◌, ap, subst, arith}
use Rattle.std.specs.Prelude.{slice_index}
use Rattle.std.proofs.lemmas.Bool.{true≢false}
use Rattle.hfs_volume.specs.Cost.{cost_of, tree_at}
use Rattle.hfs_volume.specs.declared.cost.Needs.{Needs}
use Rattle.hfs_volume.specs.declared.cost.Room.{Room}
use Rattle.volume_cost.specs.Sizes.{IsNodeSize}
use Rattle.volume_base.specs.DataWeighing.{data_as}
use Rattle.volume_weights.specs.DataWeighing.{needs_link}
use Rattle.volume_base.specs.Room.{free_in}
use Rattle.volume_base.specs.Weighing.{is_measured}
use Rattle.volume_base.proofs.RoomKept.{cost_kept}
use Rattle.volume_base.proofs.Weighed.{catalog_size, catalog_wide, extents_size, is_measured_told, measured_volume}
use Rattle.volume_weights.proofs.target_weight.cost_of_link.Goals as goal

pub cost-requires-clause-volume : goal.cost-requires-clause-volume
cost-requires-clause-volume g c = measured_volume c.room-room.result (sym c.is_measured.ensures ∙ c.if-not-is_measured.false)

pub cost-requires-clause-extents : goal.cost-requires-clause-extents
cost-requires-clause-extents g c = subst (λ (r : Room). IsNodeSize 512 (tree_at r 0)) (sym c.room-room.ensures) (extents_size c.args.volume.now (g.P.SectorView.space c.args._space.now) c.args.free)

pub cost-requires-clause-catalog : goal.cost-requires-clause-catalog
cost-requires-clause-catalog g c some =
    let wide : 4096 ≤ (tree_at c.room-room.result 1).node_size = c.is_narrow.ensures.wide c.if-is_narrow.false (omega arith) in
    subst (λ (r : Room). IsNodeSize 4096 (tree_at r 1)) (sym c.room-room.ensures)
    (catalog_size c.args.volume.now (g.P.SectorView.space c.args._space.now) c.args.free (subst (λ (r : Room). 4096 ≤ (tree_at r 1).node_size) c.room-room.ensures wide))

pub cost-requires-clause-attributes : goal.cost-requires-clause-attributes
cost-requires-clause-attributes g c some = absurd (omega (arith, some, ap (λ (n : Needs). slice_index n.edits 2) c.needs_link.ensures.same))

pub returns : goal.returns
returns g c = record {
  exact = λ tells.
      c.cost.ensures ∙ (λ i. cost_of (c.needs_link.ensures.same i) (c.room-room.ensures i))
      ∙ cost_kept c.args.volume.now (g.P.SectorView.space c.args._space.now) (c.requires.serves.stands.stands tells) (c.requires.serves.settled tells) c.trees_grow_by_enough.ensures c.requires.serves.stands.service.most c.args.free
      (needs_link (free_in c.args.free c.args.volume.now.map) c.args.volume.now.header.block_size (data_as c.args.put)) (λ some. absurd (omega (arith, some)));
}

pub returns-then-not-is_measured : goal.returns-then-not-is_measured
returns-then-not-is_measured g c = record {
  exact = λ tells. absurd (true≢false (sym (is_measured_told c.args.volume.now (g.P.SectorView.space c.args._space.now) (c.requires.serves.stands.stands tells) (c.requires.serves.settled tells) c.args.free) ∙ sym (ap is_measured c.room-room.ensures) ∙ sym c.is_measured.ensures ∙ c.if-not-is_measured.true));
}

pub returns-then-is_narrow : goal.returns-then-is_narrow
returns-then-is_narrow g c = record {
  exact = λ tells.
      let low : (tree_at c.room-room.result 1).node_size < 4096 = c.is_narrow.ensures.narrow c.if-is_narrow.true in
      absurd (omega (arith, low, ap (λ (r : Room). (tree_at r 1).node_size) c.room-room.ensures, catalog_wide c.args.volume.now (g.P.SectorView.space c.args._space.now) (c.requires.serves.stands.stands tells) (c.requires.serves.settled tells) c.args.free));
}
