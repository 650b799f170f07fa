use Rattle.std.proofs.Common.{◌≡◌, ◌≤◌, ℕ, List, length, sym, ◌∙◌, ap, subst}
use Rattle.std.specs.List.{All}
use Rattle.std.specs.Prelude.{Result}
use Rattle.btree_file.specs.Standing.{pairs_in}
use Rattle.btree_file.specs.State.{sectors_of_tree}
use Rattle.hfs_language.specs.declared.refusal.Refusal.{Refusal}
use Rattle.volume_base.specs.Lists.{lists_of}
use Rattle.volume_base.specs.Nodes.{node_in}
use Rattle.volume_base.specs.declared.nodes.Node.{Node}
use Rattle.volume_base.proofs.Seeing.{if_so}
use Rattle.volume_base.proofs.Listed.{fits_short}
use Rattle.volume_base.proofs.Still.{catalog_over}
use Rattle.volume_base.proofs.Framed.{serves_still}
use Rattle.volume_base.proofs.Looked.{catalog_looked}
use Rattle.volume_weights.proofs.lose_weight.node.Goals as goal

pub find_node-requires-clause-over : goal.find_node-requires-clause-over
find_node-requires-clause-over g c = catalog_over c.args.volume.now (g.P.SectorView.space c.args.space.now) c.requires.serves.stands c.requires.serves.settled

pub find_node-requires-clause-names : goal.find_node-requires-clause-names
find_node-requires-clause-names g c = subst (λ (p : List (List ℕ)). All (λ (name : List ℕ). length name ≤ 255) p) (sym c.as_slice.ensures) (fits_short c.args.path.now c.requires.fits)

pub returns-clause-looked : goal.returns-clause-looked
returns-clause-looked g c = catalog_looked c.find_node.ensures.below c.find_node.ensures.cause c.requires.serves.stands c.find_node.ensures.reads c.find_node.ensures.over

pub returns-clause-serves : goal.returns-clause-serves
returns-clause-serves g c = serves_still (returns-clause-looked g c) c.requires.serves

pub returns-clause-found : goal.returns-clause-found
returns-clause-found g c tells =
    if_so (λ (r : Result Node Refusal). r ≡ node_in (pairs_in (sectors_of_tree c.args.volume.now.catalog.file) (g.P.SectorView.space c.args.space.now).content) c.args.volume.now.private c.as_slice.result.now)
    (λ (r : Result Node Refusal). r ≡ node_in (lists_of c.args.volume.now (g.P.SectorView.space c.args.space.now).content).catalog_pairs c.args.volume.now.private c.args.path.now) c.find_node.result
    (λ r is. is ∙ ap (λ (p : List (List ℕ)). node_in (pairs_in (sectors_of_tree c.args.volume.now.catalog.file) (g.P.SectorView.space c.args.space.now).content) c.args.volume.now.private p) c.as_slice.ensures) (c.find_node.ensures.found tells)
