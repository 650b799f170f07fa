use Rattle.volume_base.proofs.FoundEntry.{catalog_over_by}
use Rattle.volume_base.proofs.Looked.{catalog_looked}
use Rattle.volume_base.proofs.volume.Volume.entry.Goals as goal

pub find_entry-requires : goal.find_entry-requires
find_entry-requires g c = record { over = catalog_over_by c.args.self.now (g.P.SectorView.space c.args.space.now) c.requires.stands c.requires.spelled }

pub returns-clause-looked : goal.returns-clause-looked
returns-clause-looked g c = catalog_looked c.find_entry.ensures.below c.find_entry.ensures.cause c.requires.stands c.find_entry.ensures.reads c.find_entry.ensures.over
