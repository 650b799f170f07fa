use Rattle.std.proofs.Common.{sym, ◌∙◌, ap}
use Rattle.hfs_volume.specs.Content.{VolumeState}
use Rattle.volume_base.specs.Owning.{attributes_in}
use Rattle.volume_base.proofs.Listed.{told_owned, told_why}
use Rattle.volume_base.proofs.Still.{lists_still}
use Rattle.volume_base.proofs.Framed.{looked_both}
use Rattle.volume_base.proofs.Looked.{looked_again, looked_fault, looked_none}
use Rattle.volume_base.proofs.volume.Volume.lsattr.Goals as goal

pub returns-in_err-tell_attributes-in-Ok-clause-looked : goal.returns-in_err-tell_attributes-in-Ok-clause-looked
returns-in_err-tell_attributes-in-Ok-clause-looked g c = looked_fault c.from_residual-in_err-tell_attributes-in-Ok.ensures.1 (looked_both g.met.P.SectorView.follows_trans c.owner.ensures.looked c.in_err-tell_attributes-in-Ok.ensures.looked)

pub returns-in_ok-tell_attributes-in-Ok-clause-looked : goal.returns-in_ok-tell_attributes-in-Ok-clause-looked
returns-in_ok-tell_attributes-in-Ok-clause-looked g c = looked_again (looked_both g.met.P.SectorView.follows_trans c.owner.ensures.looked c.tell_attributes.ensures.looked)

pub returns-in_ok-tell_attributes-in-Ok-clause-reply : goal.returns-in_ok-tell_attributes-in-Ok-clause-reply
returns-in_ok-tell_attributes-in-Ok-clause-reply g c tells =
    let old = g.P.SectorView.space c.args.space.now in
    let mid = g.P.SectorView.space c.owner.new.space in
    told_owned c.sound_has_plain_tree.ensures c.args.self.now old.content (c.requires.serves.stands.stands tells).trees (c.requires.serves.settled tells) c.args.path.now (sym c.is_private_path.ensures ∙ c.if-is_private_path.false) c.requires.fits
    c.in_ok-id.field-0 (c.in_ok-id.ensures.found tells) c.in-Ok.id _ c.in-Ok.is
    (c.in_ok-tell_attributes-in-Ok.ensures.listed (c.owner.ensures.looked.reads.looks.same.tells ∙ tells) ∙ ap (λ (l : VolumeState). attributes_in l.attribute_pairs c.in-Ok.id) (lists_still c.args.self.now c.owner.new.self old mid c.owner.ensures.looked.reads tells))

pub returns-in-Err-clause-reply : goal.returns-in-Err-clause-reply
returns-in-Err-clause-reply g c tells =
    told_why c.sound_has_plain_tree.ensures c.args.self.now (g.P.SectorView.space c.args.space.now).content (c.requires.serves.stands.stands tells).trees (c.requires.serves.settled tells) c.args.path.now (sym c.is_private_path.ensures ∙ c.if-is_private_path.false) c.requires.fits
    c.in_ok-id.field-0 (c.in_ok-id.ensures.found tells) c.in-Err.why c.in-Err.is

pub returns-then-is_private_path-clause-looked : goal.returns-then-is_private_path-clause-looked
returns-then-is_private_path-clause-looked g c = looked_none g.met.P.SectorView.follows_refl c.requires.serves.stands
