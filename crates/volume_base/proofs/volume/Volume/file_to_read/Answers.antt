use Rattle.std.proofs.Common.{◌≡◌, ◌≤◌, ℕ, List, length, sym, subst}
use Rattle.std.specs.List.{All}
use Rattle.std.specs.Prelude.{IfOk}
use Rattle.btree_file.specs.Standing.{pairs_in}
use Rattle.btree_file.specs.State.{sectors_of_tree}
use Rattle.volume_base.specs.Reading.{file_in}
use Rattle.volume_base.proofs.Listed.{fits_short}
use Rattle.volume_base.proofs.Still.{catalog_over}
use Rattle.volume_base.proofs.Framed.{serves_still}
use Rattle.volume_base.proofs.Looked.{catalog_looked}
use Rattle.volume_base.proofs.volume.Volume.file_to_read.Goals as goal

pub find_file-requires-clause-over : goal.find_file-requires-clause-over
find_file-requires-clause-over g c = catalog_over c.args.self.now (g.P.SectorView.space c.args.space.now) c.requires.serves.stands c.requires.serves.settled

pub find_file-requires-clause-names : goal.find_file-requires-clause-names
find_file-requires-clause-names g c = subst (λ (p : List (List ℕ)). All (λ (name : List ℕ). length name ≤ 255) p) (sym c.as_slice.ensures) (fits_short c.args.path.now c.requires.fits)

pub returns-clause-found : goal.returns-clause-found
returns-clause-found g c tells =
    subst (λ (p : List (List ℕ)). IfOk c.find_file.result (λ said. said ≡ file_in (pairs_in (sectors_of_tree c.args.self.now.catalog.file) (g.P.SectorView.space c.args.space.now).content) c.args.self.now.private p c.args.long)) c.as_slice.ensures (c.find_file.ensures.found tells)

pub returns-clause-looked : goal.returns-clause-looked
returns-clause-looked g c = catalog_looked c.find_file.ensures.below c.find_file.ensures.cause c.requires.serves.stands c.find_file.ensures.reads c.find_file.ensures.over

pub returns-clause-serves : goal.returns-clause-serves
returns-clause-serves g c = serves_still (returns-clause-looked g c) c.requires.serves
