use Rattle.volume_base.proofs.CatalogEdited.{catalog_open}
use Rattle.volume_base.proofs.TreeEdited.{catalog_edits}
use Rattle.volume_names.proofs.orphaning.set_aside.Goals as goal

pub put_aside-requires-clause-desk : goal.put_aside-requires-clause-desk
put_aside-requires-clause-desk g c = c.requires.stands.service.catalog.desk

pub put_aside-requires-clause-inside : goal.put_aside-requires-clause-inside
put_aside-requires-clause-inside g c = c.requires.stands.service.catalog.inside

pub put_aside-requires-clause-open : goal.put_aside-requires-clause-open
put_aside-requires-clause-open g c = catalog_open c.args.volume.now (g.P.SectorView.space c.args.space.now) c.requires.stands

pub put_aside-requires-clause-holds : goal.put_aside-requires-clause-holds
put_aside-requires-clause-holds g c tells = (c.requires.stands.stands tells).trees.catalog

pub returns-clause-edits : goal.returns-clause-edits
returns-clause-edits g c = catalog_edits c.put_aside.ensures.below c.put_aside.ensures.cause c.requires.stands c.put_aside.ensures.frame c.put_aside.ensures.desk c.put_aside.ensures.holds
