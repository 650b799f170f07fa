use Rattle.std.proofs.Common.{◌≡◌, ◌∙◌}
use Rattle.hfs_volume.specs.Content.{volume_of}
use Rattle.hfs_volume.specs.TreeOf.{tree_of}
use Rattle.volume_base.specs.Room.{free_in}
use Rattle.volume_base.specs.declared.room.FreeBlocks.TheVariants as blocks
use Rattle.volume_weights.proofs.CommandWeights.{at_weighed}
use Rattle.volume_weights.proofs.weights.weigh_at.Goals as goal

pub returns : goal.returns
returns g c = record {
  answer = λ tells moment. c.weigh_edits.ensures.exact tells ∙ at_weighed c.args.volume.now.capacity (free_in blocks.Takable c.args.volume.now.map) (volume_of (g.P.SectorView.space c.args.space.now).content) (tree_of (g.P.SectorView.space c.args.space.now).content) moment;
}
