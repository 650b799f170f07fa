use Rattle.std.proofs.Common.{◌≡◌, ℕ, length, sym, ◌∙◌, ap, subst, arith}
use Rattle.std.specs.Prelude.{IfOk}
use Rattle.hfs_model.specs.declared.plain.PlainNode.{PlainNode}
use Rattle.hfs_volume.specs.Content.{VolumeState, volume_of, has_attributes}
use Rattle.hfs_volume.specs.TreeOf.{tree_of}
use Rattle.hfs_volume.specs.Weight.{blocks_for_value, value_change}
use Rattle.volume_header.specs.declared.header.VolumeHeader.{VolumeHeader}
use Rattle.volume_base.specs.Room.{free_in}
use Rattle.volume_base.specs.Weighing.{values_weighed}
use Rattle.volume_base.specs.declared.room.FreeBlocks.TheVariants as blocks
use Rattle.volume_base.specs.declared.weighing.Weight.{Weight}
use Rattle.volume_base.proofs.Framed.{looked_both}
use Rattle.volume_base.proofs.OwnedTold.{has_not}
use Rattle.volume_base.proofs.Still.{has_them}
use Rattle.volume_base.proofs.ToNode.{node_told, node_refused}
use Rattle.volume_base.proofs.Looked.{looked_none}
use Rattle.volume_weights.proofs.CommandWeights.{setattr_allowed, setattr_lacks, setattr_private, setattr_refused, setattr_too_large}
use Rattle.volume_weights.proofs.value_weight.weigh_setattr.Goals as goal

pub blocks_for_value-blocks-requires-clause-block : goal.blocks_for_value-blocks-requires-clause-block
blocks_for_value-blocks-requires-clause-block g c = omega (arith, c.owner.ensures.serves.stands.service.least)

pub weigh_value-requires-clause-has : goal.weigh_value-requires-clause-has
weigh_value-requires-clause-has g c = has_them c.owner.new.self.header c.if-volume-eq0.false

pub returns-else-volume-eq0-clause-answer : goal.returns-else-volume-eq0-clause-answer
returns-else-volume-eq0-clause-answer g c tells =
    let n = node_told c.sound_has_plain_tree.ensures c.args.volume.now (g.P.SectorView.space c.args.space.now).content (c.requires.serves.stands.stands tells).trees (c.requires.serves.settled tells) c.args.path.now (sym c.is_private_path.ensures ∙ c.if-is_private_path.false) c.requires.fits c.in_ok-id.field-0 (c.in_ok-id.ensures.found tells) c.in-Ok.id c.in-Ok.is in
    let head : (volume_of (g.P.SectorView.space c.args.space.now).content).head ≡ c.args.volume.now.header = ap (λ (l : VolumeState). l.head) (c.requires.serves.settled tells).lists in
    let many : c.blocks_for_value-blocks.result ≡ blocks_for_value (volume_of (g.P.SectorView.space c.args.space.now).content).head.block_size (length c.args.value.now) =
    c.blocks_for_value-blocks.ensures.exact ∙ ap (λ (h : VolumeHeader). blocks_for_value h.block_size (length c.args.value.now)) (c.owner.ensures.looked.reads.keeps.header ∙ sym head) in
    subst (λ (w : Weight). IfOk c.weigh_value.result (λ (weighs : Weight). weighs ≡ w))
    ((λ i. values_weighed (c.owner.ensures.looked.reads.keeps.capacity i) (free_in blocks.Takable (c.owner.ensures.looked.reads.keeps.map i)) (volume_of (c.owner.ensures.looked.reads.looks.content tells i)) (record { ids = 0; catalog = 0; attributes = 2; updates = 1 })
    (value_change (volume_of (c.owner.ensures.looked.reads.looks.content tells i)) (sym n.2 i) c.args.name.now (many i)))
    ∙ setattr_allowed c.args.volume.now.capacity (free_in blocks.Takable c.args.volume.now.map) (volume_of (g.P.SectorView.space c.args.space.now).content) (tree_of (g.P.SectorView.space c.args.space.now).content) c.args.path.now c.args.name.now c.args.value.now (sym c.is_private_path.ensures ∙ c.if-is_private_path.false) n.0 n.1 (omega (arith, c.if-value-gt131072.false)) (ap has_attributes head ∙ ap has_attributes (sym c.owner.ensures.looked.reads.keeps.header) ∙ has_them c.owner.new.self.header c.if-volume-eq0.false))
    (c.weigh_value.ensures.exact (c.owner.ensures.looked.reads.looks.same.tells ∙ tells))

pub returns-else-volume-eq0-clause-looked : goal.returns-else-volume-eq0-clause-looked
returns-else-volume-eq0-clause-looked g c = looked_both g.met.P.SectorView.follows_trans c.owner.ensures.looked c.weigh_value.ensures.looked

pub returns-then-value-gt131072-clause-answer : goal.returns-then-value-gt131072-clause-answer
returns-then-value-gt131072-clause-answer g c tells =
    let n = node_told c.sound_has_plain_tree.ensures c.args.volume.now (g.P.SectorView.space c.args.space.now).content (c.requires.serves.stands.stands tells).trees (c.requires.serves.settled tells) c.args.path.now (sym c.is_private_path.ensures ∙ c.if-is_private_path.false) c.requires.fits c.in_ok-id.field-0 (c.in_ok-id.ensures.found tells) c.in-Ok.id c.in-Ok.is in
    setattr_too_large c.args.volume.now.capacity (free_in blocks.Takable c.args.volume.now.map) (volume_of (g.P.SectorView.space c.args.space.now).content) (tree_of (g.P.SectorView.space c.args.space.now).content) c.args.path.now c.args.name.now c.args.value.now (sym c.is_private_path.ensures ∙ c.if-is_private_path.false) n.0 n.1 (omega (arith, c.if-value-gt131072.true))

pub returns-then-volume-eq0-clause-answer : goal.returns-then-volume-eq0-clause-answer
returns-then-volume-eq0-clause-answer g c tells =
    let n = node_told c.sound_has_plain_tree.ensures c.args.volume.now (g.P.SectorView.space c.args.space.now).content (c.requires.serves.stands.stands tells).trees (c.requires.serves.settled tells) c.args.path.now (sym c.is_private_path.ensures ∙ c.if-is_private_path.false) c.requires.fits c.in_ok-id.field-0 (c.in_ok-id.ensures.found tells) c.in-Ok.id c.in-Ok.is in
    setattr_lacks c.args.volume.now.capacity (free_in blocks.Takable c.args.volume.now.map) (volume_of (g.P.SectorView.space c.args.space.now).content) (tree_of (g.P.SectorView.space c.args.space.now).content) c.args.path.now c.args.name.now c.args.value.now (sym c.is_private_path.ensures ∙ c.if-is_private_path.false) n.0 n.1 (omega (arith, c.if-value-gt131072.false)) (ap (λ (l : VolumeState). has_attributes l.head) (c.requires.serves.settled tells).lists ∙ ap has_attributes (sym c.owner.ensures.looked.reads.keeps.header) ∙ has_not c.owner.new.self.header c.if-volume-eq0.true)

pub returns-in-Err-clause-answer : goal.returns-in-Err-clause-answer
returns-in-Err-clause-answer g c tells = setattr_refused c.args.volume.now.capacity (free_in blocks.Takable c.args.volume.now.map) (volume_of (g.P.SectorView.space c.args.space.now).content) (tree_of (g.P.SectorView.space c.args.space.now).content) c.args.path.now c.args.name.now c.args.value.now (sym c.is_private_path.ensures ∙ c.if-is_private_path.false) c.in-Err.why (node_refused c.sound_has_plain_tree.ensures c.args.volume.now (g.P.SectorView.space c.args.space.now).content (c.requires.serves.stands.stands tells).trees (c.requires.serves.settled tells) c.args.path.now (sym c.is_private_path.ensures ∙ c.if-is_private_path.false) c.requires.fits c.in_ok-id.field-0 (c.in_ok-id.ensures.found tells) c.in-Err.why c.in-Err.is)

pub returns-then-is_private_path-clause-answer : goal.returns-then-is_private_path-clause-answer
returns-then-is_private_path-clause-answer g c tells = setattr_private c.args.volume.now.capacity (free_in blocks.Takable c.args.volume.now.map) (volume_of (g.P.SectorView.space c.args.space.now).content) (tree_of (g.P.SectorView.space c.args.space.now).content) c.args.path.now c.args.name.now c.args.value.now (sym c.is_private_path.ensures ∙ c.if-is_private_path.true)

pub returns-then-is_private_path-clause-looked : goal.returns-then-is_private_path-clause-looked
returns-then-is_private_path-clause-looked g c = looked_none g.met.P.SectorView.follows_refl c.requires.serves.stands
