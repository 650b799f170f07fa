use Rattle.std.proofs.Common.{sym, ◌∙◌, ap}
use Rattle.hfs_volume.specs.Changes.{with_numbers}
use Rattle.volume_base.proofs.Numbering.{stands_with}
use Rattle.volume_names.proofs.BareRoom.{header_counted, header_room}
use Rattle.volume_names.proofs.removing.count_off.Goals as goal

pub put_header-requires-clause-stands : goal.put_header-requires-clause-stands
put_header-requires-clause-stands g c =
    stands_with c.with_folder_removed-volume.result c.args.volume.now (g.P.SectorView.space c.args.space.now) (c.with_folder_removed-volume.ensures.same ∙ sym (ap (with_numbers c.args.volume.now.header) c.with_folder_removed-volume.ensures.same))
    (c.with_folder_removed-volume.ensures.fits c.requires.stands.service.fits) c.requires.stands

pub put_header-requires-clause-room : goal.put_header-requires-clause-room
put_header-requires-clause-room g c = header_room (g.P.SectorView.space c.args.space.now) c.requires.some

pub returns-clause-spent : goal.returns-clause-spent
returns-clause-spent g c = header_counted (g.P.SectorView.space c.args.space.now) (g.P.SectorView.space c.put_header.new.space) c.put_header.ensures.spent c.put_header.ensures.again
