use Rattle.volume_base.proofs.Listed.{fits_short}
use Rattle.volume_base.proofs.Still.{catalog_over}
use Rattle.volume_base.proofs.Framed.{serves_still}
use Rattle.volume_base.proofs.Looked.{catalog_looked}
use Rattle.volume_base.proofs.volume.Volume.site.Goals as goal

pub find_site-requires-clause-over : goal.find_site-requires-clause-over
find_site-requires-clause-over g c = catalog_over c.args.self.now (g.P.SectorView.space c.args.space.now) c.requires.serves.stands c.requires.serves.settled

pub find_site-requires-clause-names : goal.find_site-requires-clause-names
find_site-requires-clause-names g c = fits_short c.args.above.now c.requires.fits

pub returns-clause-looked : goal.returns-clause-looked
returns-clause-looked g c = catalog_looked c.find_site.ensures.below c.find_site.ensures.cause c.requires.serves.stands c.find_site.ensures.reads c.find_site.ensures.over

pub returns-clause-serves : goal.returns-clause-serves
returns-clause-serves g c = serves_still (returns-clause-looked g c) c.requires.serves
