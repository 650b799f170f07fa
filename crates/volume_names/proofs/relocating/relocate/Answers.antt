use Rattle.volume_base.proofs.CatalogEdited.{catalog_open}
use Rattle.volume_base.proofs.TreeEdited.{catalog_edits}
use Rattle.volume_names.proofs.relocating.relocate.Goals as goal

pub relocate_entry-requires-clause-desk : goal.relocate_entry-requires-clause-desk
relocate_entry-requires-clause-desk g c = c.requires.stands.service.catalog.desk

pub relocate_entry-requires-clause-inside : goal.relocate_entry-requires-clause-inside
relocate_entry-requires-clause-inside g c = c.requires.stands.service.catalog.inside

pub relocate_entry-requires-clause-open : goal.relocate_entry-requires-clause-open
relocate_entry-requires-clause-open g c = catalog_open c.args.volume.now (g.P.SectorView.space c.args.space.now) c.requires.stands

pub relocate_entry-requires-clause-holds : goal.relocate_entry-requires-clause-holds
relocate_entry-requires-clause-holds g c tells = (c.requires.stands.stands tells).trees.catalog

pub returns-clause-edits : goal.returns-clause-edits
returns-clause-edits g c = catalog_edits c.relocate_entry.ensures.below c.relocate_entry.ensures.cause c.requires.stands c.relocate_entry.ensures.frame c.relocate_entry.ensures.desk c.relocate_entry.ensures.holds
