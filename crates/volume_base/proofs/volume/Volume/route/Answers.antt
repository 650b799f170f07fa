use Rattle.volume_base.proofs.Listed.{fits_short}
use Rattle.volume_base.proofs.Still.{catalog_over}
use Rattle.volume_base.proofs.Framed.{serves_still}
use Rattle.volume_base.proofs.Looked.{catalog_looked}
use Rattle.volume_base.proofs.volume.Volume.route.Goals as goal

pub find_route-requires-clause-over : goal.find_route-requires-clause-over
find_route-requires-clause-over g c = catalog_over c.args.self.now (g.P.SectorView.space c.args.space.now) c.requires.serves.stands c.requires.serves.settled

pub find_route-requires-clause-from_names : goal.find_route-requires-clause-from_names
find_route-requires-clause-from_names g c = fits_short c.args.from.now c.requires.from_fits

pub find_route-requires-clause-above_names : goal.find_route-requires-clause-above_names
find_route-requires-clause-above_names g c = fits_short c.args.above.now c.requires.above_fits

pub find_route-requires-clause-under_names : goal.find_route-requires-clause-under_names
find_route-requires-clause-under_names g c = fits_short c.args.under.now c.requires.under_fits

pub returns-clause-looked : goal.returns-clause-looked
returns-clause-looked g c = catalog_looked c.find_route.ensures.below c.find_route.ensures.cause c.requires.serves.stands c.find_route.ensures.reads c.find_route.ensures.over

pub returns-clause-serves : goal.returns-clause-serves
returns-clause-serves g c = serves_still (returns-clause-looked g c) c.requires.serves
