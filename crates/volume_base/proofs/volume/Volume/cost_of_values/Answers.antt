use Rattle.std.proofs.Common.{◌≡◌, ◌<◌, ◌≤◌, ◌+◌, ◌^◌, true, refl, sym, ◌∙◌, ap, subst, arith}
use Rattle.std.specs.Prelude.{slice_index}
use Rattle.std.proofs.lemmas.Bool.{true≢false}
use Rattle.hfs_volume.specs.Cost.{cost_of, overflow_records, tree_at}
use Rattle.hfs_volume.specs.declared.cost.Needs.{Needs}
use Rattle.hfs_volume.specs.declared.cost.Room.{Room}
use Rattle.volume_cost.specs.Sizes.{IsNodeSize}
use Rattle.volume_base.specs.Room.{free_in}
use Rattle.volume_base.specs.Weighing.{is_measured, needs_of_change, needs_valued}
use Rattle.volume_base.proofs.FewRuns.{records_few}
use Rattle.volume_base.proofs.RoomKept.{cost_kept}
use Rattle.volume_base.proofs.Weighed.{attributes_size, attributes_wide, catalog_size, catalog_wide, extents_size, is_measured_told, measured_volume}
use Rattle.volume_base.proofs.volume.Volume.cost_of_values.Goals as goal

pub cost-requires-clause-volume : goal.cost-requires-clause-volume
cost-requires-clause-volume g c = measured_volume c.room-room.result (sym c.is_measured.ensures ∙ c.if-not-is_measured.false)

pub cost-requires-clause-extents : goal.cost-requires-clause-extents
cost-requires-clause-extents g c = subst (λ (r : Room). IsNodeSize 512 (tree_at r 0)) (sym c.room-room.ensures) (extents_size c.args.self.now (g.P.SectorView.space c.args._space.now) c.args.free)

pub cost-requires-clause-catalog : goal.cost-requires-clause-catalog
cost-requires-clause-catalog g c some =
    let wide : 4096 ≤ (tree_at c.room-room.result 1).node_size = c.is_narrow.ensures.wide c.if-is_narrow.false (omega (arith, some, ap (λ (n : Needs). slice_index n.edits 1) c.needs_with_values.ensures.same)) in
    subst (λ (r : Room). IsNodeSize 4096 (tree_at r 1)) (sym c.room-room.ensures)
    (catalog_size c.args.self.now (g.P.SectorView.space c.args._space.now) c.args.free (subst (λ (r : Room). 4096 ≤ (tree_at r 1).node_size) c.room-room.ensures wide))

pub cost-requires-clause-attributes : goal.cost-requires-clause-attributes
cost-requires-clause-attributes g c some =
    let wide : 4096 ≤ (tree_at c.room-room.result 2).node_size = c.is_narrow-2.ensures.wide c.if-is_narrow-2.false (omega arith) in
    subst (λ (r : Room). IsNodeSize 4096 (tree_at r 2)) (sym c.room-room.ensures)
    (attributes_size c.args.self.now (g.P.SectorView.space c.args._space.now) c.args.free (subst (λ (r : Room). 4096 ≤ (tree_at r 2).node_size) c.room-room.ensures wide))

pub returns : goal.returns
returns g c = record {
  exact = λ tells.
      c.cost.ensures ∙ (λ i. cost_of ((c.needs_with_values.ensures.same ∙ ap (needs_of_change c.args.edits c.args.change) c.fewest_runs-runs.ensures) i) (c.room-room.ensures i))
      ∙ cost_kept c.args.self.now (g.P.SectorView.space c.args._space.now) (c.requires.serves.stands.stands tells) (c.requires.serves.settled tells) c.trees_grow_by_enough.ensures c.requires.serves.stands.service.most c.args.free
      (needs_valued (free_in c.args.free c.args.self.now.map) c.args.edits c.args.change) (λ some. c.requires.tree tells);
}

pub returns-then-not-is_measured : goal.returns-then-not-is_measured
returns-then-not-is_measured g c = record {
  exact = λ tells. absurd (true≢false (sym (is_measured_told c.args.self.now (g.P.SectorView.space c.args._space.now) (c.requires.serves.stands.stands tells) (c.requires.serves.settled tells) c.args.free) ∙ sym (ap is_measured c.room-room.ensures) ∙ sym c.is_measured.ensures ∙ c.if-not-is_measured.true));
}

pub returns-then-is_narrow : goal.returns-then-is_narrow
returns-then-is_narrow g c = record {
  exact = λ tells.
      let low : (tree_at c.room-room.result 1).node_size < 4096 = c.is_narrow.ensures.narrow c.if-is_narrow.true in
      absurd (omega (arith, low, ap (λ (r : Room). (tree_at r 1).node_size) c.room-room.ensures, catalog_wide c.args.self.now (g.P.SectorView.space c.args._space.now) (c.requires.serves.stands.stands tells) (c.requires.serves.settled tells) c.args.free));
}

pub returns-then-is_narrow-2 : goal.returns-then-is_narrow-2
returns-then-is_narrow-2 g c = record {
  exact = λ tells.
      let low : (tree_at c.room-room.result 2).node_size < 4096 = c.is_narrow-2.ensures.narrow c.if-is_narrow-2.true in
      absurd (omega (arith, low, ap (λ (r : Room). (tree_at r 2).node_size) c.room-room.ensures, attributes_wide c.args.self.now (g.P.SectorView.space c.args._space.now) (c.requires.serves.stands.stands tells) (c.requires.serves.settled tells) c.args.free (c.requires.tree tells)));
}

pub returns-then-change-gt4294967295 : goal.returns-then-change-gt4294967295
returns-then-change-gt4294967295 g c = record { exact = λ tells. absurd (omega (arith, (c.requires.small tells).blocks, c.if-change-gt4294967295.true)) }

pub returns-then-not-are_usual : goal.returns-then-not-are_usual
returns-then-not-are_usual g c = record {
  exact = λ tells.
      let small = c.requires.small tells in
      let runs = records_few c.args.change.blocks (free_in c.args.free c.args.self.now.map) in
      absurd (true≢false (sym (c.are_usual.ensures.exact (omega (arith, small.records, runs, ap overflow_records c.fewest_runs-runs.ensures)) small.blocks small.freed) ∙ c.if-not-are_usual.true));
}
