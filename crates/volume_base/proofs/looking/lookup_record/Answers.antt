use Rattle.std.proofs.Common.{◌≡◌, ℕ, List, [], get_or, sym, ◌∙◌, ap, subst}
use Rattle.std.specs.Prelude.{IfOk}
use Rattle.btree_node.specs.Keys.{IsCatalogKey, catalog_cmp, anything}
use Rattle.btree_node.specs.Levels.{Pair}
use Rattle.btree_node.specs.TreeFile.{catalog_form}
use Rattle.btree_file.proofs.StandingLaws.{tree_held, pairs_held}
use Rattle.catalog.specs.Pairs.{value_at}
use Rattle.hfs_volume.specs.Entries.{AreSpelled}
use Rattle.volume_base.proofs.NodesRead.{keeps_read, looks_read}
use Rattle.volume_base.proofs.looking.lookup_record.Goals as goal

pub lookup-requires-clause-tree : goal.lookup-requires-clause-tree
lookup-requires-clause-tree g c tells = tree_held catalog_form IsCatalogKey anything catalog_cmp _ c.args.tree.now (g.P.SectorView.space c.args.space.now) (c.requires.holds tells)

pub lookup-requires-clause-spelled : goal.lookup-requires-clause-spelled
lookup-requires-clause-spelled g c tells =
    subst AreSpelled (sym (pairs_held catalog_form IsCatalogKey anything catalog_cmp [] c.args.tree.now (g.P.SectorView.space c.args.space.now) (c.requires.holds tells))) (c.requires.spelled tells)

pub returns-clause-found : goal.returns-clause-found
returns-clause-found g c tells =
    subst (λ (l : List Pair). IfOk c.lookup.result (λ found. found ≡ value_at l c.args.parent c.args.name.now))
    (pairs_held catalog_form IsCatalogKey anything catalog_cmp [] c.args.tree.now (g.P.SectorView.space c.args.space.now) (c.requires.holds tells)) (c.lookup.ensures.found tells)

pub returns-clause-keeps : goal.returns-clause-keeps
returns-clause-keeps g c =
    let reads = c.lookup.ensures.reads in
    let tree_is = c.tree-1.given.1 (sym (ap (λ (l : List ℕ). get_or l 0 0) reads.same.names)) in
    rw tree_is (keeps_read _ _ c.args.tree.now c.lookup.new.store.tree.now (g.P.SectorView.space c.args.space.now) (g.P.SectorView.space c.lookup.new.store.space.now) c.lookup.ensures.below.0 reads.shape reads.tree
    (λ tells. (c.requires.holds tells).stands.agrees) (λ tells. c.lookup.new.store.agrees (reads.same.tells ∙ tells)))

pub returns-clause-looks : goal.returns-clause-looks
returns-clause-looks g c =
    let reads = c.lookup.ensures.reads in
    let space_is = c.space-1.given.1 (sym (ap (λ (l : List ℕ). get_or l 1 0) reads.same.names)) in
    rw space_is (looks_read _ _ c.args.tree.now c.lookup.new.store.tree.now (g.P.SectorView.space c.args.space.now) (g.P.SectorView.space c.lookup.new.store.space.now) c.lookup.ensures.below.0 reads.shape reads.room.sectors_left reads.tree
    c.requires.inside (g.met.P.SectorView.well_formed c.args.space.now) c.requires.whole (λ tells. (c.requires.holds tells).stands))

pub returns-clause-below : goal.returns-clause-below
returns-clause-below g c =
    let space_is = c.space-1.given.1 (sym (ap (λ (l : List ℕ). get_or l 1 0) c.lookup.ensures.reads.same.names)) in
    rw space_is c.lookup.ensures.below.1

pub invariant_of-on-clause-inside : goal.invariant_of-on-clause-inside
invariant_of-on-clause-inside g c = c.requires.inside
