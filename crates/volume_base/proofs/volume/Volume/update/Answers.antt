use Rattle.volume_base.proofs.CatalogEdited.{catalog_open}
use Rattle.volume_base.proofs.TreeEdited.{catalog_edits}
use Rattle.volume_base.proofs.volume.Volume.update.Goals as goal

pub update_entry-requires-clause-desk : goal.update_entry-requires-clause-desk
update_entry-requires-clause-desk g c = c.requires.stands.service.catalog.desk

pub update_entry-requires-clause-inside : goal.update_entry-requires-clause-inside
update_entry-requires-clause-inside g c = c.requires.stands.service.catalog.inside

pub update_entry-requires-clause-open : goal.update_entry-requires-clause-open
update_entry-requires-clause-open g c = catalog_open c.args.self.now (g.P.SectorView.space c.args.space.now) c.requires.stands

pub update_entry-requires-clause-holds : goal.update_entry-requires-clause-holds
update_entry-requires-clause-holds g c tells = (c.requires.stands.stands tells).trees.catalog

pub returns-clause-edits : goal.returns-clause-edits
returns-clause-edits g c = catalog_edits c.update_entry.ensures.below c.update_entry.ensures.cause c.requires.stands c.update_entry.ensures.frame c.update_entry.ensures.desk c.update_entry.ensures.holds
