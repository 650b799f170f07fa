use Rattle.std.proofs.Common.{ℕ, List, [], get_or, sym, ◌∙◌, ap, subst}
use Rattle.std.specs.Prelude.{IfOk}
use Rattle.btree_node.specs.Keys.{IsCatalogKey, catalog_cmp, anything}
use Rattle.btree_node.specs.Levels.{Pair}
use Rattle.btree_node.specs.TreeFile.{catalog_form}
use Rattle.btree_file.proofs.StandingLaws.{tree_held, pairs_held}
use Rattle.catalog.specs.Entries.{AnswersRemoval, Removing}
use Rattle.hfs_volume.specs.Entries.{AreThreaded}
use Rattle.hfs_volume.specs.Records.{placed_in, record_at}
use Rattle.volume_base.proofs.EditsOn.{holds_again, pairs_again, edits_renamed, takes_renamed}
use Rattle.volume_base.proofs.editing.remove_entry.Goals as goal

pub remove-requires-clause-tree : goal.remove-requires-clause-tree
remove-requires-clause-tree g c tells = tree_held catalog_form IsCatalogKey anything catalog_cmp _ c.args.tree.now (g.P.SectorView.space c.args.space.now) (c.requires.holds tells)

pub remove-requires-clause-threads : goal.remove-requires-clause-threads
remove-requires-clause-threads g c tells =
    subst (λ (l : List Pair). AreThreaded l) (sym (pairs_held catalog_form IsCatalogKey anything catalog_cmp [] c.args.tree.now (g.P.SectorView.space c.args.space.now) (c.requires.holds tells))) (c.requires.threads tells)

pub remove-requires-clause-room : goal.remove-requires-clause-room
remove-requires-clause-room g c = c.requires.room _

pub returns-clause-answer : goal.returns-clause-answer
returns-clause-answer g c tells =
    subst (λ (l : List Pair). IfOk c.remove.result (λ answer. AnswersRemoval (record_at (placed_in l) c.args.parent c.args.name.now) answer)) (pairs_held catalog_form IsCatalogKey anything catalog_cmp [] c.args.tree.now (g.P.SectorView.space c.args.space.now) (c.requires.holds tells)) (c.remove.ensures.answer tells)

pub returns-clause-removed : goal.returns-clause-removed
returns-clause-removed g c tells =
    let space_is = c.space-1.given.1 (sym (ap (λ (l : List ℕ). get_or l 1 0) c.remove.ensures.same.names)) in
    rw space_is (pairs_again [] c.args.tree.now c.remove.new.store.tree.now (g.P.SectorView.space c.args.space.now) (g.P.SectorView.space c.remove.new.store.space.now) tells c.remove.ensures.below.0
    (λ answer before after. Removing c.args.parent c.args.name.now before after answer) c.remove.result (c.requires.holds tells).stands (c.remove.new.store.agrees (c.remove.ensures.same.tells ∙ tells)) (c.remove.ensures.header tells (c.requires.holds tells).stands.settled) (c.remove.ensures.removed tells))

pub returns-clause-holds : goal.returns-clause-holds
returns-clause-holds g c tells =
    let tree_is = c.tree-1.given.1 (sym (ap (λ (l : List ℕ). get_or l 0 0) c.remove.ensures.same.names)) in
    let space_is = c.space-1.given.1 (sym (ap (λ (l : List ℕ). get_or l 1 0) c.remove.ensures.same.names)) in
    rw (tree_is, space_is) (holds_again _ c.args.tree.now c.remove.new.store.tree.now (g.P.SectorView.space c.args.space.now) (g.P.SectorView.space c.remove.new.store.space.now) tells c.remove.ensures.below.0 c.remove.result
    (c.requires.holds tells) (c.remove.new.store.agrees (c.remove.ensures.same.tells ∙ tells)) (c.remove.ensures.header tells (c.requires.holds tells).stands.settled) (c.remove.ensures.tree tells))

pub returns-clause-frame : goal.returns-clause-frame
returns-clause-frame g c =
    let tree_is = c.tree-1.given.1 (sym (ap (λ (l : List ℕ). get_or l 0 0) c.remove.ensures.same.names)) in
    let space_is = c.space-1.given.1 (sym (ap (λ (l : List ℕ). get_or l 1 0) c.remove.ensures.same.names)) in
    rw (tree_is, space_is) c.remove.ensures.below.0

pub returns-clause-edits : goal.returns-clause-edits
returns-clause-edits g c names =
    let tree_is = c.tree-1.given.1 (sym (ap (λ (l : List ℕ). get_or l 0 0) c.remove.ensures.same.names)) in
    let space_is = c.space-1.given.1 (sym (ap (λ (l : List ℕ). get_or l 1 0) c.remove.ensures.same.names)) in
    rw (tree_is, space_is) (edits_renamed _ _ names c.args.tree.now c.remove.new.store.tree.now (g.P.SectorView.space c.args.space.now) (g.P.SectorView.space c.remove.new.store.space.now) 2 516 c.remove.result c.remove.ensures.edits)

pub returns-clause-takes : goal.returns-clause-takes
returns-clause-takes g c names =
    let tree_is = c.tree-1.given.1 (sym (ap (λ (l : List ℕ). get_or l 0 0) c.remove.ensures.same.names)) in
    let space_is = c.space-1.given.1 (sym (ap (λ (l : List ℕ). get_or l 1 0) c.remove.ensures.same.names)) in
    rw (tree_is, space_is) (takes_renamed _ _ names c.args.tree.now c.remove.new.store.tree.now (g.P.SectorView.space c.args.space.now) (g.P.SectorView.space c.remove.new.store.space.now) 2 516 c.remove.ensures.takes)

pub returns-clause-below : goal.returns-clause-below
returns-clause-below g c =
    let space_is = c.space-1.given.1 (sym (ap (λ (l : List ℕ). get_or l 1 0) c.remove.ensures.same.names)) in
    rw space_is c.remove.ensures.below.1

pub invariant_of-on-clause-inside : goal.invariant_of-on-clause-inside
invariant_of-on-clause-inside g c = c.requires.inside
