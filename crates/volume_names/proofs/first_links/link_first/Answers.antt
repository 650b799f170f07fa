use Rattle.volume_names.proofs.LinkWeight.{first_puts}
use Rattle.volume_base.proofs.Replaced.{node_large}
use Rattle.volume_names.proofs.LinkLoads.{first_spends, rest_beside, rest_left}
use Rattle.std.proofs.Common.{arith}
use Rattle.volume_base.proofs.Joined.{edits_wanting}
use Rattle.volume_names.proofs.first_links.link_first.Goals as goal

pub link_ready-requires-clause-left : goal.link_ready-requires-clause-left
link_ready-requires-clause-left g c = c.fits_share.ensures.left c.if-not-fits_share.false

pub returns-then-not-fits_share-clause-edits : goal.returns-then-not-fits_share-clause-edits
returns-then-not-fits_share-clause-edits g c = edits_wanting _ g.met.P.SectorView.follows_refl c.requires.serves.stands

pub link_ready-requires-clause-ids : goal.link_ready-requires-clause-ids
link_ready-requires-clause-ids g c = c.fits_share.ensures.ids c.if-not-fits_share.false

pub returns-clause-loads : goal.returns-clause-loads
returns-clause-loads g c tells from to entry linking =
    let load = c.fits_share.ensures.load c.if-not-fits_share.false in
    first_puts c.args.volume.now (g.P.SectorView.space c.args.space.now) (c.requires.serves.settled tells) (c.requires.serves.stands.stands tells) from to entry c.args.way.now.parent c.args.old.now c.args.way.now.id c.args.way.now.folder c.args.name.now linking (c.requires.only tells) c.args.private c.requires.private (g.P.SectorView.space c.link_ready.new.space)
    (first_spends c.args.volume.now (g.P.SectorView.space c.args.space.now) (g.P.SectorView.space c.link_ready.new.space) tells load
    (c.link_ready.ensures.leaves tells (rest_beside c.args.volume.now (g.P.SectorView.space c.args.space.now)) (rest_left c.edits_have_room.ensures c.args.volume.now (g.P.SectorView.space c.args.space.now) (λ told. node_large c.args.volume.now (g.P.SectorView.space c.args.space.now) c.requires.serves.stands told) load)))

pub returns-then-not-fits_share-clause-loads : goal.returns-then-not-fits_share-clause-loads
returns-then-not-fits_share-clause-loads g c tells from to entry linking n grow is = omega arith
