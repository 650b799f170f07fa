use Rattle.volume_base.proofs.CatalogEdited.{catalog_open}
use Rattle.volume_base.proofs.TreeEdited.{catalog_edits}
use Rattle.volume_base.proofs.volume.Volume.remove.Goals as goal

pub remove_entry-requires-clause-desk : goal.remove_entry-requires-clause-desk
remove_entry-requires-clause-desk g c = c.requires.stands.service.catalog.desk

pub remove_entry-requires-clause-inside : goal.remove_entry-requires-clause-inside
remove_entry-requires-clause-inside g c = c.requires.stands.service.catalog.inside

pub remove_entry-requires-clause-open : goal.remove_entry-requires-clause-open
remove_entry-requires-clause-open g c = catalog_open c.args.self.now (g.P.SectorView.space c.args.space.now) c.requires.stands

pub remove_entry-requires-clause-holds : goal.remove_entry-requires-clause-holds
remove_entry-requires-clause-holds g c tells = (c.requires.stands.stands tells).trees.catalog

pub returns-clause-edits : goal.returns-clause-edits
returns-clause-edits g c = catalog_edits c.remove_entry.ensures.below c.remove_entry.ensures.cause c.requires.stands c.remove_entry.ensures.frame c.remove_entry.ensures.desk c.remove_entry.ensures.holds
