use Rattle.std.proofs.Common.{◌≡◌, ◌<◌, ◌≤◌, ℕ, ◌+◌, ◌-◌, max, true, refl, sym, ◌∙◌, ap, subst, arith}
use Rattle.std.specs.Prelude.{IfNone, IfSome, Option, slice_index}
use Rattle.std.proofs.lemmas.Bool.{ltb-true, true≢false}
use Rattle.alloc_bitmap.specs.Map.{free_of}
use Rattle.hfs_volume.specs.Content.{volume_of}
use Rattle.hfs_volume.specs.Cost.{cost_of, overflow_records, tree_at}
use Rattle.hfs_volume.specs.Forks.{parts_for}
use Rattle.hfs_volume.specs.Weight.{room_with}
use Rattle.hfs_volume.specs.declared.cost.Cost.{Cost}
use Rattle.hfs_volume.specs.declared.cost.Needs.{Needs}
use Rattle.hfs_volume.specs.declared.cost.Room.{Room}
use Rattle.volume_cost.specs.Sizes.{IsNodeSize}
use Rattle.volume_base.specs.Room.{room_on}
use Rattle.volume_base.specs.Weighing.{is_measured}
use Rattle.volume_base.specs.declared.room.FreeBlocks.TheVariants as blocks
use Rattle.volume_base.proofs.RoomKept.{cost_kept}
use Rattle.volume_base.proofs.Weighed.{extents_size, is_measured_told, measured_volume}
use Rattle.volume_space.specs.Spreading.{is_met_extents}
use Rattle.volume_space.specs.Writing.{needs_of_put}
use Rattle.volume_space.proofs.PutMet.{edits_low}
use Rattle.volume_space.proofs.putting.affords_spread.Goals as goal

pub cost-requires-clause-volume : goal.cost-requires-clause-volume
cost-requires-clause-volume g c = measured_volume c.room-room.result (sym c.is_measured.ensures ∙ c.if-not-is_measured.false)

pub cost-requires-clause-extents : goal.cost-requires-clause-extents
cost-requires-clause-extents g c = subst (λ (r : Room). IsNodeSize 512 (tree_at r 0)) (sym c.room-room.ensures) (extents_size c.args.volume.now (g.P.SectorView.space c.args.space.now) blocks.Takable)

pub cost-requires-clause-catalog : goal.cost-requires-clause-catalog
cost-requires-clause-catalog g c some = absurd (omega (arith, some, ap (λ (n : Needs). slice_index n.edits 1) c.needs_of_data.ensures.same))

pub cost-requires-clause-attributes : goal.cost-requires-clause-attributes
cost-requires-clause-attributes g c some = absurd (omega (arith, some, ap (λ (n : Needs). slice_index n.edits 2) c.needs_of_data.ensures.same))

pub returns : goal.returns
returns g c = record {
  met = λ tells spread ok.
      let v = c.args.volume.now in
      let a = g.P.SectorView.space c.args.space.now in
      let all = c.args.records + overflow_records (c.args.extents + 1 + c.args.runs) in
      let many : c.in-Some.edits ≡ all =
      omega (arith, subst (λ (o : Option ℕ). IfSome o (λ edits. edits ≡ max (c.args.records + parts_for (c.args.extents + 1 + c.args.runs - 8) 8) 1)) c.in-Some.is c.count_edits.ensures.exact, ltb-true 8 (c.args.extents + 1 + c.args.runs) spread) in
      c.is_met.ensures
      ∙ (λ i. is_met_extents ((c.cost.ensures
      ∙ (λ j. cost_of ((c.needs_of_data.ensures.same ∙ ap (λ n. needs_of_put n c.args.counts.fresh c.args.counts.freed c.args.runs) many) j) (c.room-room.ensures j))
      ∙ cost_kept v a (c.requires.serves.stands.stands tells) (c.requires.serves.settled tells) c.trees_grow_by_enough.ensures c.requires.serves.stands.service.most blocks.Takable (needs_of_put all c.args.counts.fresh c.args.counts.freed c.args.runs) (λ some. absurd (omega (arith, some)))) i) (c.spare.ensures i))
      ∙ ok;
}

pub returns-then-not-is_measured : goal.returns-then-not-is_measured
returns-then-not-is_measured g c = record {
  met = λ tells spread ok.
      absurd (true≢false (sym (is_measured_told c.args.volume.now (g.P.SectorView.space c.args.space.now) (c.requires.serves.stands.stands tells) (c.requires.serves.settled tells) blocks.Takable) ∙ sym (ap is_measured c.room-room.ensures) ∙ sym c.is_measured.ensures ∙ c.if-not-is_measured.true));
}

pub returns-in_default : goal.returns-in_default
returns-in_default g c = record {
  met = λ tells spread ok.
      let all = c.args.records + overflow_records (c.args.extents + 1 + c.args.runs) in
      let low = edits_low c.a_load_says_enough.ensures all c.args.counts.fresh c.args.counts.freed c.args.runs (room_with c.args.volume.now.capacity (free_of c.args.volume.now.map) (volume_of (g.P.SectorView.space c.args.space.now).content)) (g.P.SectorView.space c.args.space.now).spare ok in
      absurd (omega (arith, low, subst (λ (o : Option ℕ). IfNone o (4294967295 < c.args.records + parts_for (c.args.extents + 1 + c.args.runs - 8) 8)) c.in_default.is c.count_edits.ensures.few));
}
