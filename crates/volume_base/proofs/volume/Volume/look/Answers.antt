use Rattle.std.proofs.Common.{◌≡◌, Result, sym, ◌∙◌, ap, subst}
use Rattle.sector_disk.specs.Lists.{Content}
use Rattle.hfs_language.specs.declared.refusal.Refusal.{Refusal}
use Rattle.hfs_model.specs.Extras.{sight_in}
use Rattle.hfs_model.specs.declared.kinds.Sight.{Sight}
use Rattle.hfs_volume.specs.Content.{records_of, volume_of}
use Rattle.hfs_volume.specs.TreeOf.{tree_of}
use Rattle.volume_base.specs.Sighting.{HasFileOf, sight_of}
use Rattle.volume_base.specs.declared.nodes.Node.{Node}
use Rattle.volume_base.proofs.Framed.{looked_both}
use Rattle.volume_base.proofs.Looked.{looked_none}
use Rattle.volume_base.proofs.Seeing.{if_so}
use Rattle.volume_base.proofs.Sighted.{absent_is, has_file, seen_as, sight_is}
use Rattle.volume_base.proofs.volume.Volume.look.Goals as goal

pub returns-then-is_unseen-clause-sight : goal.returns-then-is_unseen-clause-sight
returns-then-is_unseen-clause-sight g c tells folder =
    let old = g.P.SectorView.space c.args.space.now in
    absent_is c.sound_has_plain_tree.ensures c.args.self.now old.content (c.requires.serves.stands.stands tells).trees (c.requires.serves.settled tells) c.args.parent c.args.name.now (sym c.is_unseen.ensures ∙ c.if-is_unseen.true)

pub returns-then-is_unseen-clause-looked : goal.returns-then-is_unseen-clause-looked
returns-then-is_unseen-clause-looked g c = looked_none g.met.P.SectorView.follows_refl c.requires.serves.stands

pub sight_of-requires-clause-there : goal.sight_of-requires-clause-there
sight_of-requires-clause-there g c told =
    let tells = sym c.node_under.ensures.looked.reads.looks.same.tells ∙ told in
    let old = g.P.SectorView.space c.args.space.now in
    subst (λ (content : Content). HasFileOf (records_of (volume_of content)) c.in-Ok.node) (sym (c.node_under.ensures.looked.reads.looks.content tells))
    (has_file c.sound_has_plain_tree.ensures c.args.self.now old.content (c.requires.serves.stands.stands tells).trees (c.requires.serves.settled tells) c.args.parent c.args.name.now c.in_ok-node.field-0 c.in-Ok.node (sym c.is_unseen.ensures ∙ c.if-is_unseen.false)
    (c.in_ok-node.ensures.found tells) c.in-Ok.is)

pub returns-in-Ok-clause-sight : goal.returns-in-Ok-clause-sight
returns-in-Ok-clause-sight g c tells folder =
    let old = g.P.SectorView.space c.args.space.now in
    let mid = g.P.SectorView.space c.node_under.new.space in
    let looks = c.node_under.ensures.looked.reads.looks in
    if_so (λ (sight : Sight). sight ≡ sight_of mid.content c.in-Ok.node) (λ (sight : Sight). sight ≡ sight_in (tree_of old.content) c.args.parent c.args.name.now) c.sight_of.result
    (λ sight is.
    is ∙ ap (λ (content : Content). sight_of content c.in-Ok.node) (looks.content tells) ∙ ap (λ (said : Result Node Refusal). seen_as old.content said) (sym c.in-Ok.is)
    ∙ sight_is c.sound_has_plain_tree.ensures c.args.self.now old.content (c.requires.serves.stands.stands tells).trees (c.requires.serves.settled tells) c.args.parent c.args.name.now c.in_ok-node.field-0 folder (sym c.is_unseen.ensures ∙ c.if-is_unseen.false)
    (c.in_ok-node.ensures.found tells))
    (c.sight_of.ensures.sight (looks.same.tells ∙ tells))

pub returns-in-Ok-clause-looked : goal.returns-in-Ok-clause-looked
returns-in-Ok-clause-looked g c = looked_both g.met.P.SectorView.follows_trans c.node_under.ensures.looked c.sight_of.ensures.looked

pub returns-in-Err-clause-sight : goal.returns-in-Err-clause-sight
returns-in-Err-clause-sight g c tells folder =
    let old = g.P.SectorView.space c.args.space.now in
    ap (λ (said : Result Node Refusal). seen_as old.content said) (sym c.in-Err.is)
    ∙ sight_is c.sound_has_plain_tree.ensures c.args.self.now old.content (c.requires.serves.stands.stands tells).trees (c.requires.serves.settled tells) c.args.parent c.args.name.now c.in_ok-node.field-0 folder (sym c.is_unseen.ensures ∙ c.if-is_unseen.false)
    (c.in_ok-node.ensures.found tells)
