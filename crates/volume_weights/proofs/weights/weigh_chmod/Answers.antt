use Rattle.std.proofs.Common.{sym, ◌∙◌}
use Rattle.hfs_volume.specs.Content.{volume_of}
use Rattle.hfs_volume.specs.TreeOf.{tree_of}
use Rattle.volume_base.specs.Room.{free_in}
use Rattle.volume_base.specs.Weighing.{edits_weighed}
use Rattle.volume_base.specs.declared.room.FreeBlocks.TheVariants as blocks
use Rattle.volume_weights.proofs.CommandWeights.{chmod_allowed, chmod_private, chmod_refused}
use Rattle.volume_base.proofs.ToNode.{node_told, node_refused}
use Rattle.volume_base.proofs.Looked.{looked_none}
use Rattle.volume_weights.proofs.weights.weigh_chmod.Goals as goal

pub returns-in-Ok-clause-answer : goal.returns-in-Ok-clause-answer
returns-in-Ok-clause-answer g c tells rights =
    let n = node_told c.sound_has_plain_tree.ensures c.args.volume.now (g.P.SectorView.space c.args.space.now).content (c.requires.serves.stands.stands tells).trees (c.requires.serves.settled tells) c.args.path.now (sym c.is_private_path.ensures ∙ c.if-is_private_path.false) c.requires.fits c.in_ok-_id.field-0 (c.in_ok-_id.ensures.found tells) c.in-Ok._id c.in-Ok.is in
    (c.weigh_edits.ensures.exact (c.owner.ensures.looked.reads.looks.same.tells ∙ tells) ∙ (λ i. edits_weighed (c.owner.ensures.looked.reads.keeps.capacity i) (free_in blocks.Takable (c.owner.ensures.looked.reads.keeps.map i)) (volume_of (c.owner.ensures.looked.reads.looks.content tells i)) (record { ids = 0; catalog = 0; attributes = 0; updates = 1 }))) ∙ chmod_allowed c.args.volume.now.capacity (free_in blocks.Takable c.args.volume.now.map) (volume_of (g.P.SectorView.space c.args.space.now).content) (tree_of (g.P.SectorView.space c.args.space.now).content) c.args.path.now rights (sym c.is_private_path.ensures ∙ c.if-is_private_path.false) n.0 n.1

pub returns-in-Err-clause-answer : goal.returns-in-Err-clause-answer
returns-in-Err-clause-answer g c tells rights = chmod_refused c.args.volume.now.capacity (free_in blocks.Takable c.args.volume.now.map) (volume_of (g.P.SectorView.space c.args.space.now).content) (tree_of (g.P.SectorView.space c.args.space.now).content) c.args.path.now rights (sym c.is_private_path.ensures ∙ c.if-is_private_path.false) c.in-Err.why (node_refused c.sound_has_plain_tree.ensures c.args.volume.now (g.P.SectorView.space c.args.space.now).content (c.requires.serves.stands.stands tells).trees (c.requires.serves.settled tells) c.args.path.now (sym c.is_private_path.ensures ∙ c.if-is_private_path.false) c.requires.fits c.in_ok-_id.field-0 (c.in_ok-_id.ensures.found tells) c.in-Err.why c.in-Err.is)

pub returns-then-is_private_path-clause-answer : goal.returns-then-is_private_path-clause-answer
returns-then-is_private_path-clause-answer g c tells rights = chmod_private c.args.volume.now.capacity (free_in blocks.Takable c.args.volume.now.map) (volume_of (g.P.SectorView.space c.args.space.now).content) (tree_of (g.P.SectorView.space c.args.space.now).content) c.args.path.now rights (sym c.is_private_path.ensures ∙ c.if-is_private_path.true)

pub returns-then-is_private_path-clause-looked : goal.returns-then-is_private_path-clause-looked
returns-then-is_private_path-clause-looked g c = looked_none g.met.P.SectorView.follows_refl c.requires.serves.stands
