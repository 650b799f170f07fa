use Rattle.std.proofs.Common.{◌≡◌, Bool, sym, ◌∙◌, ap, subst}
use Rattle.std.specs.Prelude.{IsTrue, IfOk, IfSome, Option}
use Rattle.hfs_volume.specs.Content.{VolumeState, volume_of, has_attributes}
use Rattle.hfs_volume.specs.TreeOf.{tree_of}
use Rattle.volume_header.specs.declared.header.VolumeHeader.{VolumeHeader}
use Rattle.volume_base.specs.Attributing.{others_owned}
use Rattle.volume_base.specs.Room.{free_in}
use Rattle.hfs_volume.specs.Weight.{value_change}
use Rattle.volume_base.specs.Weighing.{values_weighed}
use Rattle.volume_base.specs.declared.weighing.Weight.{Weight}
use Rattle.volume_base.specs.declared.room.FreeBlocks.TheVariants as blocks
use Rattle.volume_weights.proofs.CommandWeights.{delattr_allowed, delattr_missing, delattr_private, delattr_refused}
use Rattle.volume_base.proofs.OwnedTold.{attribute_told, attribute_untold}
use Rattle.volume_base.proofs.Still.{lists_still, volume_both}
use Rattle.volume_base.proofs.ToNode.{node_told, node_refused}
use Rattle.volume_base.proofs.Framed.{looked_both}
use Rattle.volume_base.proofs.Looked.{looked_again, looked_fault, looked_none}
use Rattle.volume_weights.proofs.value_weight.weigh_delattr.Goals as goal

pub weigh_value-requires-clause-has : goal.weigh_value-requires-clause-has
weigh_value-requires-clause-has g c = subst (λ (h : VolumeHeader). IsTrue (has_attributes h)) (sym c.owned.ensures.looked.reads.keeps.header) (subst (λ (o : Option Bool). IfSome o (λ more. IsTrue (has_attributes c.owner.new.self.header))) c.in-Some.is c.in_ok-_others-in-Ok.ensures.has)

pub returns-in-Some-clause-answer : goal.returns-in-Some-clause-answer
returns-in-Some-clause-answer g c tells =
    let n = node_told c.sound_has_plain_tree.ensures c.args.volume.now (g.P.SectorView.space c.args.space.now).content (c.requires.serves.stands.stands tells).trees (c.requires.serves.settled tells) c.args.path.now (sym c.is_private_path.ensures ∙ c.if-is_private_path.false) c.requires.fits c.in_ok-id.field-0 (c.in_ok-id.ensures.found tells) c.in-Ok.id c.in-Ok.is in
    let a = attribute_told c.sound_has_plain_tree.ensures c.args.volume.now (g.P.SectorView.space c.args.space.now).content (c.requires.serves.stands.stands tells).trees (c.requires.serves.settled tells) c.args.path.now c.args.name.now (sym c.is_private_path.ensures ∙ c.if-is_private_path.false) c.requires.fits c.in_ok-id.field-0 (c.in_ok-id.ensures.found tells) c.in-Ok.id c.in-Ok.is n.0 n.1 c.in-Some._others
    (sym c.in-Some.is ∙ c.in_ok-_others-in-Ok.ensures.found (c.owner.ensures.looked.reads.looks.same.tells ∙ tells) ∙ ap (λ (l : VolumeState). others_owned l.attribute_pairs c.in-Ok.id c.args.name.now) (lists_still c.args.volume.now c.owner.new.self (g.P.SectorView.space c.args.space.now) (g.P.SectorView.space c.owner.new.space) c.owner.ensures.looked.reads tells)) in
    let reads = volume_both c.args.volume.now c.owner.new.self c.owned.new.self (g.P.SectorView.space c.args.space.now) (g.P.SectorView.space c.owner.new.space) (g.P.SectorView.space c.owned.new.space) c.owner.ensures.looked.reads c.owned.ensures.looked.reads in
    subst (λ (w : Weight). IfOk c.weigh_value.result (λ (weighs : Weight). weighs ≡ w))
    ((λ i. values_weighed (reads.keeps.capacity i) (free_in blocks.Takable (reads.keeps.map i)) (volume_of (reads.looks.content tells i)) (record { ids = 0; catalog = 0; attributes = 1; updates = 1 })
    (value_change (volume_of (reads.looks.content tells i)) (sym n.2 i) c.args.name.now 0))
    ∙ delattr_allowed c.args.volume.now.capacity (free_in blocks.Takable c.args.volume.now.map) (volume_of (g.P.SectorView.space c.args.space.now).content) (tree_of (g.P.SectorView.space c.args.space.now).content) c.args.path.now c.args.name.now (sym c.is_private_path.ensures ∙ c.if-is_private_path.false) n.0 a.0 a.1)
    (c.weigh_value.ensures.exact (reads.looks.same.tells ∙ tells))

pub returns-in-Some-clause-looked : goal.returns-in-Some-clause-looked
returns-in-Some-clause-looked g c = looked_both g.met.P.SectorView.follows_trans (looked_both g.met.P.SectorView.follows_trans c.owner.ensures.looked c.owned.ensures.looked) c.weigh_value.ensures.looked

pub returns-in-None-clause-answer : goal.returns-in-None-clause-answer
returns-in-None-clause-answer g c tells =
    let n = node_told c.sound_has_plain_tree.ensures c.args.volume.now (g.P.SectorView.space c.args.space.now).content (c.requires.serves.stands.stands tells).trees (c.requires.serves.settled tells) c.args.path.now (sym c.is_private_path.ensures ∙ c.if-is_private_path.false) c.requires.fits c.in_ok-id.field-0 (c.in_ok-id.ensures.found tells) c.in-Ok.id c.in-Ok.is in
    delattr_missing c.args.volume.now.capacity (free_in blocks.Takable c.args.volume.now.map) (volume_of (g.P.SectorView.space c.args.space.now).content) (tree_of (g.P.SectorView.space c.args.space.now).content) c.args.path.now c.args.name.now (attribute_untold c.sound_has_plain_tree.ensures c.args.volume.now (g.P.SectorView.space c.args.space.now).content (c.requires.serves.stands.stands tells).trees (c.requires.serves.settled tells) c.args.path.now c.args.name.now (sym c.is_private_path.ensures ∙ c.if-is_private_path.false) c.requires.fits c.in_ok-id.field-0 (c.in_ok-id.ensures.found tells) c.in-Ok.id c.in-Ok.is n.0 n.1
    (sym c.in-None.is ∙ c.in_ok-_others-in-Ok.ensures.found (c.owner.ensures.looked.reads.looks.same.tells ∙ tells) ∙ ap (λ (l : VolumeState). others_owned l.attribute_pairs c.in-Ok.id c.args.name.now) (lists_still c.args.volume.now c.owner.new.self (g.P.SectorView.space c.args.space.now) (g.P.SectorView.space c.owner.new.space) c.owner.ensures.looked.reads tells))).0

pub returns-in-None-clause-looked : goal.returns-in-None-clause-looked
returns-in-None-clause-looked g c = looked_again (looked_both g.met.P.SectorView.follows_trans c.owner.ensures.looked c.owned.ensures.looked)

pub returns-in_err-_others-in-Ok-clause-looked : goal.returns-in_err-_others-in-Ok-clause-looked
returns-in_err-_others-in-Ok-clause-looked g c = looked_fault c.from_residual-in_err-_others-in-Ok.ensures.1 (looked_both g.met.P.SectorView.follows_trans c.owner.ensures.looked c.in_err-_others-in-Ok.ensures.looked)

pub returns-in-Err-clause-answer : goal.returns-in-Err-clause-answer
returns-in-Err-clause-answer g c tells = delattr_refused c.args.volume.now.capacity (free_in blocks.Takable c.args.volume.now.map) (volume_of (g.P.SectorView.space c.args.space.now).content) (tree_of (g.P.SectorView.space c.args.space.now).content) c.args.path.now c.args.name.now (sym c.is_private_path.ensures ∙ c.if-is_private_path.false) c.in-Err.why (node_refused c.sound_has_plain_tree.ensures c.args.volume.now (g.P.SectorView.space c.args.space.now).content (c.requires.serves.stands.stands tells).trees (c.requires.serves.settled tells) c.args.path.now (sym c.is_private_path.ensures ∙ c.if-is_private_path.false) c.requires.fits c.in_ok-id.field-0 (c.in_ok-id.ensures.found tells) c.in-Err.why c.in-Err.is)

pub returns-then-is_private_path-clause-answer : goal.returns-then-is_private_path-clause-answer
returns-then-is_private_path-clause-answer g c tells = delattr_private c.args.volume.now.capacity (free_in blocks.Takable c.args.volume.now.map) (volume_of (g.P.SectorView.space c.args.space.now).content) (tree_of (g.P.SectorView.space c.args.space.now).content) c.args.path.now c.args.name.now (sym c.is_private_path.ensures ∙ c.if-is_private_path.true)

pub returns-then-is_private_path-clause-looked : goal.returns-then-is_private_path-clause-looked
returns-then-is_private_path-clause-looked g c = looked_none g.met.P.SectorView.follows_refl c.requires.serves.stands
