use Rattle.std.proofs.Common.{sym, ◌∙◌, ap}
use Rattle.volume_base.proofs.Framed.{serves_still}
use Rattle.volume_base.proofs.Looked.{looked_on}
use Rattle.volume_base.proofs.ValueBytes.{value_replied}
use Rattle.volume_header.specs.declared.header.VolumeHeader.{VolumeHeader}
use Rattle.volume_base.proofs.volume.Volume.tell_value.Goals as goal

pub returns-clause-told : goal.returns-clause-told
returns-clause-told g c tells =
    let old = g.P.SectorView.space c.args.space.now in
    let mid = g.P.SectorView.space c.value.new.space in
    let looks = c.value.ensures.looked.reads.looks in
    value_replied c.args.self.now old.content (c.requires.serves.settled tells) c.args.id c.args.name.now c.in_ok-found.found (c.in_ok-found.ensures.found tells) mid.content mid.sectors c.value.new.self.header.block_size (looks.content tells)
    (g.met.P.SectorView.well_formed c.args.space.now tells ∙ sym looks.same.sectors) (ap (λ (h : VolumeHeader). h.block_size) c.value.ensures.looked.reads.keeps.header) c.told_value.result (c.told_value.ensures.reply (looks.same.tells ∙ tells))

pub returns-clause-looked : goal.returns-clause-looked
returns-clause-looked g c = looked_on g.met.P.SectorView.follows_trans c.value.ensures.looked c.requires.serves.stands c.told_value.ensures.below c.told_value.ensures.cause c.told_value.ensures.reads

pub returns-clause-serves : goal.returns-clause-serves
returns-clause-serves g c = serves_still (returns-clause-looked g c) c.requires.serves
