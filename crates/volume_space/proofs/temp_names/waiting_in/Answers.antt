use Rattle.volume_base.proofs.Still.{catalog_over}
use Rattle.volume_base.proofs.Framed.{serves_still}
use Rattle.volume_base.proofs.Looked.{catalog_looked}
use Rattle.volume_space.proofs.temp_names.waiting_in.Goals as goal

pub search_folder-requires : goal.search_folder-requires
search_folder-requires g c = record { over = catalog_over c.args.volume.now (g.P.SectorView.space c.args.space.now) c.requires.serves.stands c.requires.serves.settled }

pub returns-clause-looked : goal.returns-clause-looked
returns-clause-looked g c = catalog_looked c.search_folder.ensures.below c.search_folder.ensures.cause c.requires.serves.stands c.search_folder.ensures.reads c.search_folder.ensures.over

pub returns-clause-serves : goal.returns-clause-serves
returns-clause-serves g c = serves_still (returns-clause-looked g c) c.requires.serves
