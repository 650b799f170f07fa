use Rattle.std.proofs.Common.{◌≡◌, ◌≤◌, ◌+◌, inl, arith, sym, ◌∙◌, ap, subst}
use Rattle.volume_header.specs.declared.header.VolumeHeader.{VolumeHeader}
use Rattle.hfs_volume.specs.Changes.{with_numbers}
use Rattle.volume_base.specs.Giving.{with_free_count}
use Rattle.volume_base.specs.Mapping.{HoldsUnchanged}
use Rattle.volume_base.specs.Standing.{map_sectors}
use Rattle.volume_base.proofs.Numbering.{stands_with}
use Rattle.volume_base.proofs.Traded.{puts_counted, within_traded}
use Rattle.volume_base.proofs.volume.Volume.put_blocks.Goals as goal

pub put_map-requires-clause-stands : goal.put_map-requires-clause-stands
put_map-requires-clause-stands g c =
    stands_with c.with_free_count-self.result c.args.self.now (g.P.SectorView.space c.args.space.now) (c.with_free_count-self.ensures.same ∙ sym (ap (with_numbers c.args.self.now.header) c.with_free_count-self.ensures.same))
    (c.with_free_count-self.ensures.fits c.requires.stands.service.fits) c.requires.stands

pub put_map-requires-clause-unchanged : goal.put_map-requires-clause-unchanged
put_map-requires-clause-unchanged g c told =
    subst (λ (h : VolumeHeader). HoldsUnchanged (record c.args.self.now { header = h }) (g.P.SectorView.space c.args.space.now).content) (sym c.with_free_count-self.ensures.same) (c.requires.unchanged told)

pub put_map-requires-clause-room : goal.put_map-requires-clause-room
put_map-requires-clause-room g c = omega (arith, c.requires.room)

pub put_header-requires-clause-stands : goal.put_header-requires-clause-stands
put_header-requires-clause-stands g c = c.put_map.ensures.stands

pub put_header-requires-clause-room : goal.put_header-requires-clause-room
put_header-requires-clause-room g c = inl (omega (arith, c.put_map.ensures.spent, c.requires.room))

pub returns-clause-counted : goal.returns-clause-counted
returns-clause-counted g c = ap (λ (h : VolumeHeader). record c.args.self.now { header = h }) (c.with_free_count-self.ensures.same ∙ ap (λ n. with_free_count n c.args.self.now.header) c.count_all.ensures)

pub returns-clause-put : goal.returns-clause-put
returns-clause-put g c tells =
    let told = c.put_map.ensures.within.same.tells ∙ tells in
    puts_counted (record c.args.self.now { header = c.with_free_count-self.result }) (g.P.SectorView.space c.args.space.now) (g.P.SectorView.space c.put_map.new.space) (g.P.SectorView.space c.put_header.new.space)
    (c.put_header.ensures.stands.stands (c.put_header.ensures.within.same.tells ∙ told)) (c.put_map.ensures.put tells) (c.put_header.ensures.put told) c.put_header.ensures.within told

pub returns-clause-within : goal.returns-clause-within
returns-clause-within g c =
    within_traded (map_sectors c.args.self.now) (g.P.SectorView.space c.args.space.now) (g.P.SectorView.space c.put_map.new.space) (g.P.SectorView.space c.put_header.new.space) c.put_map.ensures.within c.put_header.ensures.within

pub returns-clause-spent : goal.returns-clause-spent
returns-clause-spent g c = omega (arith, c.put_map.ensures.spent, c.put_header.ensures.spent)

pub returns-clause-is_put : goal.returns-clause-is_put
returns-clause-is_put g c tells = c.put_header.ensures.is_put (c.put_map.ensures.within.same.tells ∙ tells)
