use Rattle.volume_base.proofs.Listed.{fits_short}
use Rattle.volume_base.proofs.Still.{catalog_over}
use Rattle.volume_base.proofs.Framed.{serves_still}
use Rattle.volume_base.proofs.Looked.{catalog_looked}
use Rattle.volume_names.proofs.losing.losing.Goals as goal

pub find_losing-requires-clause-over : goal.find_losing-requires-clause-over
find_losing-requires-clause-over g c = catalog_over c.args.volume.now (g.P.SectorView.space c.args.space.now) c.requires.serves.stands c.requires.serves.settled

pub find_losing-requires-clause-names : goal.find_losing-requires-clause-names
find_losing-requires-clause-names g c = fits_short c.args.above.now c.requires.fits

pub returns-clause-looked : goal.returns-clause-looked
returns-clause-looked g c = catalog_looked c.find_losing.ensures.below c.find_losing.ensures.cause c.requires.serves.stands c.find_losing.ensures.reads c.find_losing.ensures.over

pub returns-clause-serves : goal.returns-clause-serves
returns-clause-serves g c = serves_still (returns-clause-looked g c) c.requires.serves
