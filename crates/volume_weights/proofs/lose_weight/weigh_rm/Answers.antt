use Rattle.std.proofs.Common.{sym, ◌∙◌}
use Rattle.hfs_volume.specs.Content.{volume_of}
use Rattle.hfs_volume.specs.TreeOf.{tree_of}
use Rattle.volume_base.specs.Losing.{lose_edits}
use Rattle.volume_weights.specs.Losing.{loss_weighed}
use Rattle.volume_base.specs.Room.{free_in}
use Rattle.volume_base.specs.Weighing.{edits_weighed}
use Rattle.volume_base.specs.declared.room.FreeBlocks.TheVariants as blocks
use Rattle.volume_weights.proofs.LoseWeight.{lose_refused, loss_told, private_weighed, rm_missing, root_weighed}
use Rattle.volume_base.proofs.Refused.{unrooted}
use Rattle.volume_base.proofs.Looked.{looked_none}
use Rattle.volume_weights.proofs.lose_weight.weigh_rm.Goals as goal

pub returns-in-Ok-clause-answer : goal.returns-in-Ok-clause-answer
returns-in-Ok-clause-answer g c tells =
    loss_told c.sound_has_plain_tree.ensures c.args.volume.now (g.P.SectorView.space c.args.space.now).content (c.requires.serves.stands.stands tells).trees (c.requires.serves.settled tells) c.args.path.now (sym c.is_private_path.ensures ∙ c.if-is_private_path.false) c.requires.fits (unrooted c.args.path.now (sym c.is_empty.ensures ∙ c.if-is_empty.false)) c.in_ok-node.field-0 (c.in_ok-node.ensures.found tells) (free_in blocks.Takable c.args.volume.now.map) c.in-Ok.node c.in-Ok.is c.weigh_loss.result (c.weigh_loss.ensures.exact (c.node.ensures.looked.reads.looks.same.tells ∙ tells)
    ∙ (λ i. loss_weighed c.in-Ok.node (edits_weighed (c.node.ensures.looked.reads.keeps.capacity i) (free_in blocks.Takable (c.node.ensures.looked.reads.keeps.map i)) (volume_of (c.node.ensures.looked.reads.looks.content tells i)) (lose_edits (c.node.ensures.looked.reads.keeps.private i))) (edits_weighed (c.node.ensures.looked.reads.keeps.capacity i) (free_in blocks.Takable (c.node.ensures.looked.reads.keeps.map i)) (volume_of (c.node.ensures.looked.reads.looks.content tells i)))))

pub returns-in-Err-clause-answer : goal.returns-in-Err-clause-answer
returns-in-Err-clause-answer g c tells =
    lose_refused c.args.volume.now.capacity (free_in blocks.Takable c.args.volume.now.map) (volume_of (g.P.SectorView.space c.args.space.now).content) (tree_of (g.P.SectorView.space c.args.space.now).content) c.args.path.now (sym c.is_private_path.ensures ∙ c.if-is_private_path.false) c.in-Err.why
    (rm_missing c.sound_has_plain_tree.ensures c.args.volume.now (g.P.SectorView.space c.args.space.now).content (c.requires.serves.stands.stands tells).trees (c.requires.serves.settled tells) c.args.path.now (sym c.is_private_path.ensures ∙ c.if-is_private_path.false) c.requires.fits (unrooted c.args.path.now (sym c.is_empty.ensures ∙ c.if-is_empty.false)) c.in_ok-node.field-0 (c.in_ok-node.ensures.found tells) (free_in blocks.Takable c.args.volume.now.map) c.in-Err.why c.in-Err.is)

pub returns-then-is_private_path-clause-answer : goal.returns-then-is_private_path-clause-answer
returns-then-is_private_path-clause-answer g c tells = private_weighed c.args.volume.now.capacity (free_in blocks.Takable c.args.volume.now.map) (volume_of (g.P.SectorView.space c.args.space.now).content) (tree_of (g.P.SectorView.space c.args.space.now).content) c.args.path.now (sym c.is_private_path.ensures ∙ c.if-is_private_path.true)

pub returns-then-is_empty-clause-answer : goal.returns-then-is_empty-clause-answer
returns-then-is_empty-clause-answer g c tells = root_weighed c.args.volume.now.capacity (free_in blocks.Takable c.args.volume.now.map) (volume_of (g.P.SectorView.space c.args.space.now).content) (tree_of (g.P.SectorView.space c.args.space.now).content) c.args.path.now (sym c.is_empty.ensures ∙ c.if-is_empty.true)

pub returns-then-is_private_path-clause-looked : goal.returns-then-is_private_path-clause-looked
returns-then-is_private_path-clause-looked g c = looked_none g.met.P.SectorView.follows_refl c.requires.serves.stands

pub returns-then-is_empty-clause-looked : goal.returns-then-is_empty-clause-looked
returns-then-is_empty-clause-looked g c = looked_none g.met.P.SectorView.follows_refl c.requires.serves.stands
