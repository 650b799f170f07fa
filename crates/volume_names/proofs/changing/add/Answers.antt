use Rattle.volume_base.proofs.CatalogEdited.{catalog_open}
use Rattle.volume_base.proofs.TreeEdited.{catalog_edits}
use Rattle.volume_names.proofs.changing.add.Goals as goal

pub add_entry-requires-clause-desk : goal.add_entry-requires-clause-desk
add_entry-requires-clause-desk g c = c.requires.stands.service.catalog.desk

pub add_entry-requires-clause-inside : goal.add_entry-requires-clause-inside
add_entry-requires-clause-inside g c = c.requires.stands.service.catalog.inside

pub add_entry-requires-clause-open : goal.add_entry-requires-clause-open
add_entry-requires-clause-open g c = catalog_open c.args.volume.now (g.P.SectorView.space c.args.space.now) c.requires.stands

pub add_entry-requires-clause-holds : goal.add_entry-requires-clause-holds
add_entry-requires-clause-holds g c tells = (c.requires.stands.stands tells).trees.catalog

pub returns-clause-edits : goal.returns-clause-edits
returns-clause-edits g c = catalog_edits c.add_entry.ensures.below c.add_entry.ensures.cause c.requires.stands c.add_entry.ensures.frame c.add_entry.ensures.desk c.add_entry.ensures.holds
