use Rattle.std.proofs.Common.{inl}
use Rattle.volume_base.proofs.Numbering.{stands_with}
use Rattle.volume_names.proofs.EditsLeft.{header_spent}
use Rattle.volume_names.proofs.sharing.draw_two.Goals as goal

pub put_header-requires-clause-stands : goal.put_header-requires-clause-stands
put_header-requires-clause-stands g c = stands_with c.with_two_made-volume.result c.args.volume.now (g.P.SectorView.space c.args.space.now) c.with_two_made-volume.ensures.numbers (c.with_two_made-volume.ensures.fits c.requires.stands.service.fits) c.requires.stands

pub put_header-requires-clause-room : goal.put_header-requires-clause-room
put_header-requires-clause-room g c = inl c.requires.some

pub returns-clause-spent : goal.returns-clause-spent
returns-clause-spent g c = header_spent (g.P.SectorView.space c.args.space.now) (g.P.SectorView.space c.put_header.new.space) c.put_header.ensures.spent c.put_header.ensures.again
