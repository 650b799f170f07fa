use Rattle.std.proofs.Common.{◌≡◌, ◌/◌, true, ℕ, List, sym, ◌∙◌, ap, subst}
use Rattle.std.specs.List.{list_all}
use Rattle.hfs_volume.specs.Blocks.{GoesOn}
use Rattle.hfs_volume.specs.Content.{overflow_of_content}
use Rattle.hfs_volume.specs.Forks.{extents_of, allocation_id}
use Rattle.hfs_volume.specs.Records.{Overflow}
use Rattle.jnl_format.specs.Recovery.{header_of_volume}
use Rattle.volume_header.specs.declared.header.VolumeHeader.{VolumeHeader}
use Rattle.volume_base.specs.Opening.{ends_inside}
use Rattle.volume_base.proofs.OpenFiles.{allocation_special, extents_own, map_inside, map_opened}
use Rattle.volume_base.proofs.Opened.{extents_hold, overflow_told, special_goes_on}
use Rattle.volume_base.proofs.Seeing.{looks_both, looks_loads, looks_wider}
use Rattle.volume_base.proofs.opening.load_map.Goals as goal

pub load_extents-requires-clause-holds : goal.load_extents-requires-clause-holds
load_extents-requires-clause-holds g c tells = extents_hold (g.P.SectorView.space c.args.space.now).content (c.requires.servable tells) c.args.extents.now.file (c.requires.file tells)

pub load_extents-requires-clause-goes_on : goal.load_extents-requires-clause-goes_on
load_extents-requires-clause-goes_on g c tells =
    subst (λ (o : List Overflow). GoesOn o (record { id = allocation_id; kind = 0; fork = c.args.header.now.allocation_fork }))
    (sym (overflow_told (g.P.SectorView.space c.args.space.now).content (c.requires.servable tells) c.args.extents.now.file (c.requires.file tells)))
    (subst (λ (h : VolumeHeader). GoesOn (overflow_of_content (g.P.SectorView.space c.args.space.now).content) (record { id = allocation_id; kind = 0; fork = h.allocation_fork })) (sym (c.requires.head tells))
    (special_goes_on (g.P.SectorView.space c.args.space.now).content (c.requires.servable tells) allocation_id (header_of_volume (g.P.SectorView.space c.args.space.now).content).allocation_fork
    (allocation_special (g.P.SectorView.space c.args.space.now).content (c.requires.servable tells))))

pub returns-in_err-list-clause-looks : goal.returns-in_err-list-clause-looks
returns-in_err-list-clause-looks g c =
    looks_wider _ _ (g.P.SectorView.space c.args.space.now) (g.P.SectorView.space c.load_extents.new.space)
    (λ tells. extents_own (g.P.SectorView.space c.args.space.now).content (c.requires.servable tells) c.args.extents.now.file (c.requires.file tells)) c.load_extents.ensures.looks

pub returns-clause-map : goal.returns-clause-map
returns-clause-map g c tells =
    let looks = c.load_extents.ensures.looks in
    map_opened (g.P.SectorView.space c.args.space.now).content (c.requires.servable tells) c.args.header.now c.in_ok-list.list c.inside_or_none-list.result c.blocks_told-total.result (g.P.SectorView.space c.load_extents.new.space).sectors
    (g.P.SectorView.space c.load_extents.new.space).content c.load.result (c.requires.head tells) (looks.content tells) (g.met.P.SectorView.well_formed c.args.space.now tells ∙ sym looks.same.sectors)
    (c.in_ok-list.ensures.found tells
    ∙ ap (λ (o : List Overflow). extents_of o allocation_id 0 c.args.header.now.allocation_fork) (overflow_told (g.P.SectorView.space c.args.space.now).content (c.requires.servable tells) c.args.extents.now.file (c.requires.file tells)))
    (λ ends. c.inside_or_none-list.ensures.same (subst (λ n. list_all (ends_inside (c.args.header.now.block_size / 512) n) c.in_ok-list.list ≡ true) (sym c.sectors.ensures) ends))
    c.blocks_told-total.ensures.same c.load.ensures.size (c.load.ensures.bits (looks.same.tells ∙ tells)) c.load.ensures.rest

pub returns-clause-inside : goal.returns-clause-inside
returns-clause-inside g c =
    map_inside c.inside_or_none-list.result c.args.header.now.block_size c.blocks_told-total.result (g.P.SectorView.space c.args.space.now).sectors c.load.result c.requires.least
    (subst (λ n. list_all (ends_inside (c.args.header.now.block_size / 512) n) c.inside_or_none-list.result ≡ true) (c.sectors.ensures ∙ c.load_extents.ensures.looks.same.sectors) c.inside_or_none-list.ensures.inside)
    c.load.ensures.rest

pub returns-clause-looks : goal.returns-clause-looks
returns-clause-looks g c =
    looks_both _ (g.P.SectorView.space c.args.space.now) (g.P.SectorView.space c.load_extents.new.space) (g.P.SectorView.space c.load.new.view)
    (looks_wider _ _ (g.P.SectorView.space c.args.space.now) (g.P.SectorView.space c.load_extents.new.space)
    (λ tells. extents_own (g.P.SectorView.space c.args.space.now).content (c.requires.servable tells) c.args.extents.now.file (c.requires.file tells)) c.load_extents.ensures.looks)
    (looks_loads _ (g.P.SectorView.space c.load_extents.new.space) (g.P.SectorView.space c.load.new.view) c.load.ensures.sectors c.load.ensures.time c.load.ensures.room c.load.ensures.same c.load.ensures.later)
