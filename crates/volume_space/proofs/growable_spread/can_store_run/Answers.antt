use Rattle.std.proofs.Common.{sym, ◌∙◌, subst}
use Rattle.hfs_volume.specs.Cost.{cost_of, tree_at}
use Rattle.hfs_volume.specs.declared.cost.Room.{Room}
use Rattle.volume_cost.specs.Sizes.{IsNodeSize}
use Rattle.volume_space.specs.Spreading.{is_met_extents}
use Rattle.volume_base.specs.declared.room.FreeBlocks.TheVariants as blocks
use Rattle.volume_base.proofs.Weighed.{extents_size, measured_volume}
use Rattle.volume_space.proofs.growable_spread.can_store_run.Goals as goal

pub cost-requires-clause-volume : goal.cost-requires-clause-volume
cost-requires-clause-volume g c = measured_volume c.room-room.result (sym c.is_measured.ensures ∙ c.if-not-is_measured.false)

pub cost-requires-clause-extents : goal.cost-requires-clause-extents
cost-requires-clause-extents g c = subst (λ (r : Room). IsNodeSize 512 (tree_at r 0)) (sym c.room-room.ensures) (extents_size c.args.volume.now (g.P.SectorView.space c.args._space.now) blocks.Takable)

pub returns-clause-room : goal.returns-clause-room
returns-clause-room g c is = sym (c.is_met.ensures ∙ (λ i. is_met_extents ((c.cost.ensures ∙ (λ j. cost_of (c.needs_of_extents.ensures.same j) (c.room-room.ensures j))) i) c.args.spare)) ∙ is
