use Rattle.std.proofs.Common.{sym, ◌∙◌, ap}
use Rattle.volume_header.specs.declared.header.VolumeHeader.{VolumeHeader}
use Rattle.volume_base.proofs.Listed.{told_later, told_value_why}
use Rattle.volume_base.proofs.Still.{lists_still}
use Rattle.volume_base.proofs.Framed.{looked_both}
use Rattle.volume_base.proofs.Looked.{looked_none}
use Rattle.volume_base.proofs.volume.Volume.getattr.Goals as goal

pub returns-in-Ok-clause-looked : goal.returns-in-Ok-clause-looked
returns-in-Ok-clause-looked g c = looked_both g.met.P.SectorView.follows_trans c.owner.ensures.looked c.tell_value.ensures.looked

pub returns-in-Ok-clause-reply : goal.returns-in-Ok-clause-reply
returns-in-Ok-clause-reply g c tells =
    let old = g.P.SectorView.space c.args.space.now in
    let mid = g.P.SectorView.space c.owner.new.space in
    let looked = c.owner.ensures.looked in
    told_later c.sound_has_plain_tree.ensures c.args.self.now old.content (c.requires.serves.stands.stands tells).trees (c.requires.serves.settled tells) c.args.path.now c.args.name.now (sym c.is_private_path.ensures ∙ c.if-is_private_path.false) c.requires.fits
    c.in_ok-id.field-0 (c.in_ok-id.ensures.found tells) c.in-Ok.id c.in-Ok.is mid.content c.owner.new.self.header.block_size _ (looked.reads.looks.content tells) (ap (λ (h : VolumeHeader). h.block_size) looked.reads.keeps.header)
    (lists_still c.args.self.now c.owner.new.self old mid looked.reads tells) c.tell_value.result (c.tell_value.ensures.told (looked.reads.looks.same.tells ∙ tells))

pub returns-in-Err-clause-reply : goal.returns-in-Err-clause-reply
returns-in-Err-clause-reply g c tells =
    told_value_why c.sound_has_plain_tree.ensures c.args.self.now (g.P.SectorView.space c.args.space.now).content (c.requires.serves.stands.stands tells).trees (c.requires.serves.settled tells) c.args.path.now c.args.name.now (sym c.is_private_path.ensures ∙ c.if-is_private_path.false) c.requires.fits
    c.in_ok-id.field-0 (c.in_ok-id.ensures.found tells) c.in-Err.why c.in-Err.is

pub returns-then-is_private_path-clause-looked : goal.returns-then-is_private_path-clause-looked
returns-then-is_private_path-clause-looked g c = looked_none g.met.P.SectorView.follows_refl c.requires.serves.stands
