use Rattle.std.proofs.Common.{◌≡◌, ◌∙◌}
use Rattle.std.specs.Prelude.{Some}
use Rattle.hfs_language.specs.declared.command.Command.TheVariants as command
use Rattle.hfs_volume.specs.Content.{volume_of}
use Rattle.hfs_volume.specs.TreeOf.{tree_of}
use Rattle.volume_weights.specs.Linking.{link_weighed}
use Rattle.volume_base.specs.Room.{free_in}
use Rattle.volume_base.specs.Weighing.{edits_weighed, weighed}
use Rattle.volume_base.specs.declared.room.FreeBlocks.TheVariants as blocks
use Rattle.volume_base.specs.declared.weighing.Weight.{Weight}
use Rattle.volume_weights.proofs.LinkWeight.{link_told}
use Rattle.volume_base.proofs.Seeing.{if_so}
use Rattle.volume_weights.proofs.link_weight.weigh_ln_fine.Goals as goal

pub returns-in-Ok-clause-answer : goal.returns-in-Ok-clause-answer
returns-in-Ok-clause-answer g c tells =
    if_so (λ (w : Weight). Some w ≡ link_weighed c.in-Ok.node (edits_weighed c.node.new.volume.capacity (free_in blocks.Takable c.node.new.volume.map) (volume_of (g.P.SectorView.space c.node.new.space).content)) c.node.new.volume.private)
    (λ (w : Weight). w ≡ weighed c.args.volume.now.capacity (free_in blocks.Takable c.args.volume.now.map) (volume_of (g.P.SectorView.space c.args.space.now).content) (tree_of (g.P.SectorView.space c.args.space.now).content) (command.Ln c.args.from.now c.args.to.now)) c.weigh_link.result
    (λ w same. link_told c.sound_has_plain_tree.ensures c.args.volume.now (g.P.SectorView.space c.args.space.now).content (c.requires.serves.stands.stands tells).trees (c.requires.serves.settled tells) c.args.from.now c.args.to.now (c.requires.fine tells) c.requires.from_fits c.in_ok-node.field-0 (c.in_ok-node.ensures.found tells) (free_in blocks.Takable c.args.volume.now.map) c.in-Ok.node c.in-Ok.is w
    (same ∙ (λ i. link_weighed c.in-Ok.node (edits_weighed (c.node.ensures.looked.reads.keeps.capacity i) (free_in blocks.Takable (c.node.ensures.looked.reads.keeps.map i)) (volume_of (c.node.ensures.looked.reads.looks.content tells i))) (c.node.ensures.looked.reads.keeps.private i))))
    (c.weigh_link.ensures.exact (c.node.ensures.looked.reads.looks.same.tells ∙ tells))
