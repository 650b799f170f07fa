use Rattle.std.proofs.Common.{ℕ, List, [], get_or, sym, ◌∙◌, ap, subst}
use Rattle.std.specs.Prelude.{IfOk}
use Rattle.btree_node.specs.Keys.{IsCatalogKey, catalog_cmp, anything}
use Rattle.btree_node.specs.Levels.{Pair}
use Rattle.btree_node.specs.TreeFile.{catalog_form}
use Rattle.btree_file.proofs.StandingLaws.{tree_held, pairs_held}
use Rattle.catalog.specs.Entries.{AnswersMove, Moving}
use Rattle.hfs_volume.specs.Entries.{AreThreaded}
use Rattle.hfs_volume.specs.Records.{placed_in, record_at}
use Rattle.volume_base.proofs.EditsOn.{holds_again, pairs_again, edits_renamed, takes_renamed}
use Rattle.volume_names.proofs.relocating.relocate_entry.Goals as goal

pub move_entry-requires-clause-tree : goal.move_entry-requires-clause-tree
move_entry-requires-clause-tree g c tells = tree_held catalog_form IsCatalogKey anything catalog_cmp _ c.args.tree.now (g.P.SectorView.space c.args.space.now) (c.requires.holds tells)

pub move_entry-requires-clause-threads : goal.move_entry-requires-clause-threads
move_entry-requires-clause-threads g c tells =
    subst (λ (l : List Pair). AreThreaded l) (sym (pairs_held catalog_form IsCatalogKey anything catalog_cmp [] c.args.tree.now (g.P.SectorView.space c.args.space.now) (c.requires.holds tells))) (c.requires.threads tells)

pub move_entry-requires-clause-room : goal.move_entry-requires-clause-room
move_entry-requires-clause-room g c = c.requires.room _

pub returns-clause-answer : goal.returns-clause-answer
returns-clause-answer g c tells =
    subst (λ (l : List Pair). IfOk c.move_entry.result (λ answer. AnswersMove (record_at (placed_in l) c.args.from c.args.old.now) (record_at (placed_in l) c.args.to c.args.name.now) answer)) (pairs_held catalog_form IsCatalogKey anything catalog_cmp [] c.args.tree.now (g.P.SectorView.space c.args.space.now) (c.requires.holds tells)) (c.move_entry.ensures.answer tells)

pub returns-clause-moved : goal.returns-clause-moved
returns-clause-moved g c tells =
    let space_is = c.space-1.given.1 (sym (ap (λ (l : List ℕ). get_or l 1 0) c.move_entry.ensures.same.names)) in
    rw space_is (pairs_again [] c.args.tree.now c.move_entry.new.store.tree.now (g.P.SectorView.space c.args.space.now) (g.P.SectorView.space c.move_entry.new.store.space.now) tells c.move_entry.ensures.below.0
    (λ answer before after. Moving c.args.from c.args.old.now c.args.to c.args.name.now before after answer) c.move_entry.result (c.requires.holds tells).stands (c.move_entry.new.store.agrees (c.move_entry.ensures.same.tells ∙ tells)) (c.move_entry.ensures.header tells (c.requires.holds tells).stands.settled) (c.move_entry.ensures.moved tells))

pub returns-clause-holds : goal.returns-clause-holds
returns-clause-holds g c tells =
    let tree_is = c.tree-1.given.1 (sym (ap (λ (l : List ℕ). get_or l 0 0) c.move_entry.ensures.same.names)) in
    let space_is = c.space-1.given.1 (sym (ap (λ (l : List ℕ). get_or l 1 0) c.move_entry.ensures.same.names)) in
    rw (tree_is, space_is) (holds_again _ c.args.tree.now c.move_entry.new.store.tree.now (g.P.SectorView.space c.args.space.now) (g.P.SectorView.space c.move_entry.new.store.space.now) tells c.move_entry.ensures.below.0 c.move_entry.result
    (c.requires.holds tells) (c.move_entry.new.store.agrees (c.move_entry.ensures.same.tells ∙ tells)) (c.move_entry.ensures.header tells (c.requires.holds tells).stands.settled) (c.move_entry.ensures.tree tells))

pub returns-clause-frame : goal.returns-clause-frame
returns-clause-frame g c =
    let tree_is = c.tree-1.given.1 (sym (ap (λ (l : List ℕ). get_or l 0 0) c.move_entry.ensures.same.names)) in
    let space_is = c.space-1.given.1 (sym (ap (λ (l : List ℕ). get_or l 1 0) c.move_entry.ensures.same.names)) in
    rw (tree_is, space_is) c.move_entry.ensures.below.0

pub returns-clause-edits : goal.returns-clause-edits
returns-clause-edits g c names =
    let tree_is = c.tree-1.given.1 (sym (ap (λ (l : List ℕ). get_or l 0 0) c.move_entry.ensures.same.names)) in
    let space_is = c.space-1.given.1 (sym (ap (λ (l : List ℕ). get_or l 1 0) c.move_entry.ensures.same.names)) in
    rw (tree_is, space_is) (edits_renamed _ _ names c.args.tree.now c.move_entry.new.store.tree.now (g.P.SectorView.space c.args.space.now) (g.P.SectorView.space c.move_entry.new.store.space.now) 3 516 c.move_entry.result c.move_entry.ensures.edits)

pub returns-clause-takes : goal.returns-clause-takes
returns-clause-takes g c names =
    let tree_is = c.tree-1.given.1 (sym (ap (λ (l : List ℕ). get_or l 0 0) c.move_entry.ensures.same.names)) in
    let space_is = c.space-1.given.1 (sym (ap (λ (l : List ℕ). get_or l 1 0) c.move_entry.ensures.same.names)) in
    rw (tree_is, space_is) (takes_renamed _ _ names c.args.tree.now c.move_entry.new.store.tree.now (g.P.SectorView.space c.args.space.now) (g.P.SectorView.space c.move_entry.new.store.space.now) 3 516 c.move_entry.ensures.takes)

pub returns-clause-below : goal.returns-clause-below
returns-clause-below g c =
    let space_is = c.space-1.given.1 (sym (ap (λ (l : List ℕ). get_or l 1 0) c.move_entry.ensures.same.names)) in
    rw space_is c.move_entry.ensures.below.1

pub invariant_of-on-clause-inside : goal.invariant_of-on-clause-inside
invariant_of-on-clause-inside g c = c.requires.inside
