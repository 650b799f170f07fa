use Rattle.std.proofs.Common.{inl, sym, ◌∙◌, ap}
use Rattle.hfs_volume.specs.Changes.{with_numbers}
use Rattle.volume_base.proofs.Numbering.{stands_with}
use Rattle.volume_base.proofs.volume.Volume.count_file_off.Goals as goal

pub put_header-requires-clause-stands : goal.put_header-requires-clause-stands
put_header-requires-clause-stands g c =
    stands_with c.with_file_removed-self.result c.args.self.now (g.P.SectorView.space c.args.space.now) (c.with_file_removed-self.ensures.same ∙ sym (ap (with_numbers c.args.self.now.header) c.with_file_removed-self.ensures.same))
    (c.with_file_removed-self.ensures.fits c.requires.stands.service.fits) c.requires.stands

pub put_header-requires-clause-room : goal.put_header-requires-clause-room
put_header-requires-clause-room g c = inl c.requires.some
