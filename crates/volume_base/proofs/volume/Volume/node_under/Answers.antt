use Rattle.volume_base.proofs.Still.{catalog_over}
use Rattle.volume_base.proofs.Framed.{serves_still}
use Rattle.volume_base.proofs.Looked.{catalog_looked}
use Rattle.volume_base.proofs.volume.Volume.node_under.Goals as goal

pub find_under-requires-clause-over : goal.find_under-requires-clause-over
find_under-requires-clause-over g c = catalog_over c.args.self.now (g.P.SectorView.space c.args.space.now) c.requires.serves.stands c.requires.serves.settled

pub returns-clause-looked : goal.returns-clause-looked
returns-clause-looked g c = catalog_looked c.find_under.ensures.below c.find_under.ensures.cause c.requires.serves.stands c.find_under.ensures.reads c.find_under.ensures.over

pub returns-clause-serves : goal.returns-clause-serves
returns-clause-serves g c = serves_still (returns-clause-looked g c) c.requires.serves
