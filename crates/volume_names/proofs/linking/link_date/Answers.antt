use Rattle.volume_base.proofs.Still.{catalog_over}
use Rattle.volume_base.proofs.Framed.{serves_still}
use Rattle.volume_base.proofs.Looked.{catalog_looked}
use Rattle.volume_names.proofs.linking.link_date.Goals as goal

pub find_link_date-requires : goal.find_link_date-requires
find_link_date-requires g c = record { over = catalog_over c.args.volume.now (g.P.SectorView.space c.args.space.now) c.requires.serves.stands c.requires.serves.settled }

pub returns-clause-looked : goal.returns-clause-looked
returns-clause-looked g c = catalog_looked c.find_link_date.ensures.below c.find_link_date.ensures.cause c.requires.serves.stands c.find_link_date.ensures.reads c.find_link_date.ensures.over

pub returns-clause-serves : goal.returns-clause-serves
returns-clause-serves g c = serves_still (returns-clause-looked g c) c.requires.serves
