use Rattle.std.proofs.Common.{◌≡◌, ℕ, List, [], get_or, sym, ◌∙◌, ap, subst}
use Rattle.std.specs.Prelude.{IfOk, None}
use Rattle.btree_node.specs.Keys.{IsCatalogKey, catalog_cmp, anything}
use Rattle.btree_node.specs.Levels.{Pair}
use Rattle.btree_node.specs.TreeFile.{catalog_form}
use Rattle.btree_file.proofs.StandingLaws.{tree_held, pairs_held}
use Rattle.catalog.specs.Entries.{Adding, AnswersAdd}
use Rattle.hfs_volume.specs.Records.{placed_in, record_at, id_in}
use Rattle.volume_base.proofs.EditsOn.{holds_again, pairs_again, edits_renamed, takes_renamed}
use Rattle.volume_names.proofs.editing.add_entry.Goals as goal

pub add-requires-clause-tree : goal.add-requires-clause-tree
add-requires-clause-tree g c tells = tree_held catalog_form IsCatalogKey anything catalog_cmp _ c.args.tree.now (g.P.SectorView.space c.args.space.now) (c.requires.holds tells)

pub add-requires-clause-unused : goal.add-requires-clause-unused
add-requires-clause-unused g c tells =
    subst (λ (l : List Pair). record_at (placed_in l) (id_in c.args.rec.now) [] ≡ None) (sym (pairs_held catalog_form IsCatalogKey anything catalog_cmp [] c.args.tree.now (g.P.SectorView.space c.args.space.now) (c.requires.holds tells))) (c.requires.unused tells)

pub add-requires-clause-room : goal.add-requires-clause-room
add-requires-clause-room g c = c.requires.room _

pub returns-clause-answer : goal.returns-clause-answer
returns-clause-answer g c tells =
    subst (λ (l : List Pair). IfOk c.add.result (λ answer. AnswersAdd (record_at (placed_in l) c.args.parent c.args.name.now) answer)) (pairs_held catalog_form IsCatalogKey anything catalog_cmp [] c.args.tree.now (g.P.SectorView.space c.args.space.now) (c.requires.holds tells)) (c.add.ensures.answer tells)

pub returns-clause-added : goal.returns-clause-added
returns-clause-added g c tells =
    let space_is = c.space-1.given.1 (sym (ap (λ (l : List ℕ). get_or l 1 0) c.add.ensures.same.names)) in
    rw space_is (pairs_again [] c.args.tree.now c.add.new.store.tree.now (g.P.SectorView.space c.args.space.now) (g.P.SectorView.space c.add.new.store.space.now) tells c.add.ensures.below.0
    (λ answer before after. Adding (record { parent = c.args.parent; name = c.args.name.now; value = c.args.rec.now }) before after answer) c.add.result (c.requires.holds tells).stands (c.add.new.store.agrees (c.add.ensures.same.tells ∙ tells)) (c.add.ensures.header tells (c.requires.holds tells).stands.settled) (c.add.ensures.added tells))

pub returns-clause-holds : goal.returns-clause-holds
returns-clause-holds g c tells =
    let tree_is = c.tree-1.given.1 (sym (ap (λ (l : List ℕ). get_or l 0 0) c.add.ensures.same.names)) in
    let space_is = c.space-1.given.1 (sym (ap (λ (l : List ℕ). get_or l 1 0) c.add.ensures.same.names)) in
    rw (tree_is, space_is) (holds_again _ c.args.tree.now c.add.new.store.tree.now (g.P.SectorView.space c.args.space.now) (g.P.SectorView.space c.add.new.store.space.now) tells c.add.ensures.below.0 c.add.result
    (c.requires.holds tells) (c.add.new.store.agrees (c.add.ensures.same.tells ∙ tells)) (c.add.ensures.header tells (c.requires.holds tells).stands.settled) (c.add.ensures.tree tells))

pub returns-clause-frame : goal.returns-clause-frame
returns-clause-frame g c =
    let tree_is = c.tree-1.given.1 (sym (ap (λ (l : List ℕ). get_or l 0 0) c.add.ensures.same.names)) in
    let space_is = c.space-1.given.1 (sym (ap (λ (l : List ℕ). get_or l 1 0) c.add.ensures.same.names)) in
    rw (tree_is, space_is) c.add.ensures.below.0

pub returns-clause-edits : goal.returns-clause-edits
returns-clause-edits g c names =
    let tree_is = c.tree-1.given.1 (sym (ap (λ (l : List ℕ). get_or l 0 0) c.add.ensures.same.names)) in
    let space_is = c.space-1.given.1 (sym (ap (λ (l : List ℕ). get_or l 1 0) c.add.ensures.same.names)) in
    rw (tree_is, space_is) (edits_renamed _ _ names c.args.tree.now c.add.new.store.tree.now (g.P.SectorView.space c.args.space.now) (g.P.SectorView.space c.add.new.store.space.now) 2 516 c.add.result c.add.ensures.edits)

pub returns-clause-takes : goal.returns-clause-takes
returns-clause-takes g c names =
    let tree_is = c.tree-1.given.1 (sym (ap (λ (l : List ℕ). get_or l 0 0) c.add.ensures.same.names)) in
    let space_is = c.space-1.given.1 (sym (ap (λ (l : List ℕ). get_or l 1 0) c.add.ensures.same.names)) in
    rw (tree_is, space_is) (takes_renamed _ _ names c.args.tree.now c.add.new.store.tree.now (g.P.SectorView.space c.args.space.now) (g.P.SectorView.space c.add.new.store.space.now) 2 516 c.add.ensures.takes)

pub returns-clause-below : goal.returns-clause-below
returns-clause-below g c =
    let space_is = c.space-1.given.1 (sym (ap (λ (l : List ℕ). get_or l 1 0) c.add.ensures.same.names)) in
    rw space_is c.add.ensures.below.1

pub invariant_of-on-clause-inside : goal.invariant_of-on-clause-inside
invariant_of-on-clause-inside g c = c.requires.inside
