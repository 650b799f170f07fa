use Rattle.std.proofs.Common.{ℕ, List, [], get_or, sym, ◌∙◌, ap, subst}
use Rattle.btree_node.specs.Keys.{IsCatalogKey, catalog_cmp, anything}
use Rattle.btree_node.specs.Levels.{Pair}
use Rattle.btree_node.specs.TreeFile.{catalog_form}
use Rattle.btree_file.proofs.StandingLaws.{tree_held, pairs_held}
use Rattle.hard_links.specs.Orphans.{MakesOrphan, NamesFile}
use Rattle.hfs_volume.specs.Entries.{AreThreaded}
use Rattle.volume_base.proofs.EditsOn.{edits_renamed, holds_again, pairs_again, takes_renamed}
use Rattle.volume_names.proofs.orphaning.put_aside.Goals as goal

pub orphan-requires-clause-tree : goal.orphan-requires-clause-tree
orphan-requires-clause-tree g c tells = tree_held catalog_form IsCatalogKey anything catalog_cmp _ c.args.tree.now (g.P.SectorView.space c.args.space.now) (c.requires.holds tells)

pub orphan-requires-clause-threads : goal.orphan-requires-clause-threads
orphan-requires-clause-threads g c tells =
    subst (λ (l : List Pair). AreThreaded l) (sym (pairs_held catalog_form IsCatalogKey anything catalog_cmp [] c.args.tree.now (g.P.SectorView.space c.args.space.now) (c.requires.holds tells))) (c.requires.threads tells)

pub orphan-requires-clause-file : goal.orphan-requires-clause-file
orphan-requires-clause-file g c tells =
    subst (λ (l : List Pair). NamesFile c.args.at.now l) (sym (pairs_held catalog_form IsCatalogKey anything catalog_cmp [] c.args.tree.now (g.P.SectorView.space c.args.space.now) (c.requires.holds tells))) (c.requires.file tells)

pub orphan-requires-clause-room : goal.orphan-requires-clause-room
orphan-requires-clause-room g c = c.requires.room _

pub returns-clause-moved : goal.returns-clause-moved
returns-clause-moved g c tells =
    let space_is = c.space-1.given.1 (sym (ap (λ (l : List ℕ). get_or l 1 0) c.orphan.ensures.same.names)) in
    rw space_is (pairs_again [] c.args.tree.now c.orphan.new.store.tree.now (g.P.SectorView.space c.args.space.now) (g.P.SectorView.space c.orphan.new.store.space.now) tells c.orphan.ensures.below.0
    (λ answer before after. MakesOrphan c.args.private c.args.at.now before after) c.orphan.result (c.requires.holds tells).stands (c.orphan.new.store.agrees (c.orphan.ensures.same.tells ∙ tells)) (c.orphan.ensures.header tells (c.requires.holds tells).stands.settled) (c.orphan.ensures.moved tells))

pub returns-clause-holds : goal.returns-clause-holds
returns-clause-holds g c tells =
    let tree_is = c.tree-1.given.1 (sym (ap (λ (l : List ℕ). get_or l 0 0) c.orphan.ensures.same.names)) in
    let space_is = c.space-1.given.1 (sym (ap (λ (l : List ℕ). get_or l 1 0) c.orphan.ensures.same.names)) in
    rw (tree_is, space_is) (holds_again _ c.args.tree.now c.orphan.new.store.tree.now (g.P.SectorView.space c.args.space.now) (g.P.SectorView.space c.orphan.new.store.space.now) tells c.orphan.ensures.below.0 c.orphan.result
    (c.requires.holds tells) (c.orphan.new.store.agrees (c.orphan.ensures.same.tells ∙ tells)) (c.orphan.ensures.header tells (c.requires.holds tells).stands.settled) (c.orphan.ensures.tree tells))

pub returns-clause-frame : goal.returns-clause-frame
returns-clause-frame g c =
    let tree_is = c.tree-1.given.1 (sym (ap (λ (l : List ℕ). get_or l 0 0) c.orphan.ensures.same.names)) in
    let space_is = c.space-1.given.1 (sym (ap (λ (l : List ℕ). get_or l 1 0) c.orphan.ensures.same.names)) in
    rw (tree_is, space_is) c.orphan.ensures.below.0

pub returns-clause-edits : goal.returns-clause-edits
returns-clause-edits g c names =
    let tree_is = c.tree-1.given.1 (sym (ap (λ (l : List ℕ). get_or l 0 0) c.orphan.ensures.same.names)) in
    let space_is = c.space-1.given.1 (sym (ap (λ (l : List ℕ). get_or l 1 0) c.orphan.ensures.same.names)) in
    rw (tree_is, space_is) (edits_renamed _ _ names c.args.tree.now c.orphan.new.store.tree.now (g.P.SectorView.space c.args.space.now) (g.P.SectorView.space c.orphan.new.store.space.now) 3 516 c.orphan.result c.orphan.ensures.edits)

pub returns-clause-takes : goal.returns-clause-takes
returns-clause-takes g c names =
    let tree_is = c.tree-1.given.1 (sym (ap (λ (l : List ℕ). get_or l 0 0) c.orphan.ensures.same.names)) in
    let space_is = c.space-1.given.1 (sym (ap (λ (l : List ℕ). get_or l 1 0) c.orphan.ensures.same.names)) in
    rw (tree_is, space_is) (takes_renamed _ _ names c.args.tree.now c.orphan.new.store.tree.now (g.P.SectorView.space c.args.space.now) (g.P.SectorView.space c.orphan.new.store.space.now) 3 516 c.orphan.ensures.takes)

pub returns-clause-below : goal.returns-clause-below
returns-clause-below g c =
    let space_is = c.space-1.given.1 (sym (ap (λ (l : List ℕ). get_or l 1 0) c.orphan.ensures.same.names)) in
    rw space_is c.orphan.ensures.below.1

pub invariant_of-on-clause-inside : goal.invariant_of-on-clause-inside
invariant_of-on-clause-inside g c = c.requires.inside
