use Rattle.std.proofs.Common.{◌≡◌, ℕ, List, sym, ◌∙◌, ap, subst}
use Rattle.hfs_volume.specs.Blocks.{GoesOn}
use Rattle.hfs_volume.specs.Content.{overflow_of_content}
use Rattle.hfs_volume.specs.Forks.{extents_of}
use Rattle.hfs_volume.specs.Records.{Overflow}
use Rattle.volume_base.proofs.OpenFiles.{extents_own, opened_later}
use Rattle.volume_base.proofs.Opened.{extents_hold, overflow_told, special_goes_on}
use Rattle.volume_base.proofs.Seeing.{looks_both, looks_reads, looks_wider}
use Rattle.volume_base.proofs.opening.attach_special.Goals as goal

pub load_extents-requires-clause-holds : goal.load_extents-requires-clause-holds
load_extents-requires-clause-holds g c tells = extents_hold (g.P.SectorView.space c.args.space.now).content (c.requires.servable tells) c.args.extents.now.file (c.requires.file tells)

pub load_extents-requires-clause-whole : goal.load_extents-requires-clause-whole
load_extents-requires-clause-whole g c tells = (c.requires.servable tells).whole

pub load_extents-requires-clause-goes_on : goal.load_extents-requires-clause-goes_on
load_extents-requires-clause-goes_on g c tells =
    subst (λ (o : List Overflow). GoesOn o (record { id = c.args.id; kind = 0; fork = c.args.fork.now }))
    (sym (overflow_told (g.P.SectorView.space c.args.space.now).content (c.requires.servable tells) c.args.extents.now.file (c.requires.file tells)))
    (special_goes_on (g.P.SectorView.space c.args.space.now).content (c.requires.servable tells) c.args.id c.args.fork.now (c.requires.special tells))

pub returns-in_err-list-clause-looks : goal.returns-in_err-list-clause-looks
returns-in_err-list-clause-looks g c =
    looks_wider _ _ (g.P.SectorView.space c.args.space.now) (g.P.SectorView.space c.load_extents.new.space)
    (λ tells. extents_own (g.P.SectorView.space c.args.space.now).content (c.requires.servable tells) c.args.extents.now.file (c.requires.file tells)) c.load_extents.ensures.looks

pub returns-clause-file : goal.returns-clause-file
returns-clause-file g c tells nodes =
    let looks = c.load_extents.ensures.looks in
    opened_later (g.P.SectorView.space c.args.space.now).content (c.requires.servable tells) c.args.id c.args.fork.now (c.requires.special tells) nodes c.in_ok-list.list c.args.block (g.P.SectorView.space c.load_extents.new.space).sectors
    c.attach_tree.result (g.P.SectorView.space c.load_extents.new.space).content (looks.content tells)
    (c.in_ok-list.ensures.found tells
    ∙ ap (λ (o : List Overflow). extents_of o c.args.id 0 c.args.fork.now) (overflow_told (g.P.SectorView.space c.args.space.now).content (c.requires.servable tells) c.args.extents.now.file (c.requires.file tells)))
    (c.requires.block tells) (g.met.P.SectorView.well_formed c.args.space.now tells ∙ sym looks.same.sectors) (c.attach_tree.ensures.stands (looks.same.tells ∙ tells))

pub returns-clause-looks : goal.returns-clause-looks
returns-clause-looks g c =
    looks_both _ (g.P.SectorView.space c.args.space.now) (g.P.SectorView.space c.load_extents.new.space) (g.P.SectorView.space c.attach_tree.new.space)
    (looks_wider _ _ (g.P.SectorView.space c.args.space.now) (g.P.SectorView.space c.load_extents.new.space)
    (λ tells. extents_own (g.P.SectorView.space c.args.space.now).content (c.requires.servable tells) c.args.extents.now.file (c.requires.file tells)) c.load_extents.ensures.looks)
    (looks_reads _ (g.P.SectorView.space c.load_extents.new.space) (g.P.SectorView.space c.attach_tree.new.space) c.attach_tree.ensures.reads)
