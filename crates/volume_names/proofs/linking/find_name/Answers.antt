use Rattle.volume_base.proofs.Still.{catalog_over}
use Rattle.volume_base.proofs.Framed.{serves_still}
use Rattle.volume_base.proofs.Looked.{catalog_looked}
use Rattle.volume_names.proofs.linking.find_name.Goals as goal

pub find_name_record-requires-clause-over : goal.find_name_record-requires-clause-over
find_name_record-requires-clause-over g c = catalog_over c.args.volume.now (g.P.SectorView.space c.args.space.now) c.requires.serves.stands c.requires.serves.settled

pub returns-clause-looked : goal.returns-clause-looked
returns-clause-looked g c = catalog_looked c.find_name_record.ensures.below c.find_name_record.ensures.cause c.requires.serves.stands c.find_name_record.ensures.reads c.find_name_record.ensures.over

pub returns-clause-serves : goal.returns-clause-serves
returns-clause-serves g c = serves_still (returns-clause-looked g c) c.requires.serves
