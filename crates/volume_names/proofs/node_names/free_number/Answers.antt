use Rattle.volume_base.proofs.Still.{catalog_over}
use Rattle.volume_base.proofs.Framed.{serves_still}
use Rattle.volume_base.proofs.Looked.{catalog_looked}
use Rattle.std.specs.Prelude.{codes}
use Rattle.btree_file.specs.Standing.{pairs_in}
use Rattle.btree_file.specs.State.{sectors_of_tree}
use Rattle.volume_names.proofs.FreeNumbers.{first_free}
use Rattle.volume_names.proofs.node_names.free_number.Goals as goal

pub find_free_number-requires : goal.find_free_number-requires
find_free_number-requires g c = record { over = catalog_over c.args.volume.now (g.P.SectorView.space c.args.space.now) c.requires.serves.stands c.requires.serves.settled }

pub returns-clause-looked : goal.returns-clause-looked
returns-clause-looked g c = catalog_looked c.find_free_number.ensures.below c.find_free_number.ensures.cause c.requires.serves.stands c.find_free_number.ensures.reads c.find_free_number.ensures.over

pub returns-clause-serves : goal.returns-clause-serves
returns-clause-serves g c = serves_still (returns-clause-looked g c) c.requires.serves

pub returns-clause-free : goal.returns-clause-free
returns-clause-free g c tells =
    first_free c.find_free_number.result (pairs_in (sectors_of_tree c.args.volume.now.catalog.file) (g.P.SectorView.space c.args.space.now).content) c.args.private (codes "iNode") c.args.own (c.find_free_number.ensures.first tells)
