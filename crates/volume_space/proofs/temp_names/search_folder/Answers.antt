use Rattle.std.proofs.Common.{◌≡◌, ℕ, List, [], get_or, sym, ◌∙◌, ap, subst}
use Rattle.std.specs.Prelude.{IfOk, None}
use Rattle.btree_node.specs.Keys.{IsCatalogKey, catalog_cmp, anything}
use Rattle.btree_node.specs.Levels.{Pair}
use Rattle.btree_node.specs.TreeFile.{catalog_form}
use Rattle.btree_node.specs.declared.store.TreeShape.{TreeShape}
use Rattle.btree_edit.specs.Desk.{IsDeskOf}
use Rattle.btree_file.proofs.StandingLaws.{tree_held, pairs_held}
use Rattle.catalog.specs.Children.{children_in}
use Rattle.hfs_volume.specs.Entries.{AreSpelled}
use Rattle.volume_space.specs.Orphans.{found_among}
use Rattle.volume_base.proofs.NodesRead.{keeps_read, looks_read}
use Rattle.volume_base.proofs.Over.{over_read}
use Rattle.volume_space.proofs.temp_names.search_folder.Goals as goal

pub search_behind-requires-clause-tree : goal.search_behind-requires-clause-tree
search_behind-requires-clause-tree g c tells = tree_held catalog_form IsCatalogKey anything catalog_cmp _ c.args.tree.now (g.P.SectorView.space c.args.space.now) (c.requires.over.holds tells)

pub search_behind-requires-clause-spelled : goal.search_behind-requires-clause-spelled
search_behind-requires-clause-spelled g c tells =
    subst AreSpelled (sym (pairs_held catalog_form IsCatalogKey anything catalog_cmp [] c.args.tree.now (g.P.SectorView.space c.args.space.now) (c.requires.over.holds tells))) (c.requires.over.spelled tells)

pub returns-clause-found : goal.returns-clause-found
returns-clause-found g c tells =
    subst (λ (l : List Pair). IfOk c.search_behind.result (λ found. found ≡ found_among None (children_in c.args.folder l)))
    (pairs_held catalog_form IsCatalogKey anything catalog_cmp [] c.args.tree.now (g.P.SectorView.space c.args.space.now) (c.requires.over.holds tells)) (c.search_behind.ensures.found tells)

pub returns-clause-reads : goal.returns-clause-reads
returns-clause-reads g c =
    let reads = c.search_behind.ensures.reads in
    let tree_is = c.tree-1.given.1 (sym (ap (λ (l : List ℕ). get_or l 0 0) reads.same.names)) in
    let space_is = c.space-1.given.1 (sym (ap (λ (l : List ℕ). get_or l 1 0) reads.same.names)) in
    rw tree_is (rw space_is (record {
      keeps = keeps_read _ _ c.args.tree.now c.search_behind.new.store.tree.now (g.P.SectorView.space c.args.space.now) (g.P.SectorView.space c.search_behind.new.store.space.now) c.search_behind.ensures.below.0 reads.shape reads.tree
          (λ tells. (c.requires.over.holds tells).stands.agrees) (λ tells. c.search_behind.new.store.agrees (reads.same.tells ∙ tells));
      looks = looks_read _ _ c.args.tree.now c.search_behind.new.store.tree.now (g.P.SectorView.space c.args.space.now) (g.P.SectorView.space c.search_behind.new.store.space.now) c.search_behind.ensures.below.0 reads.shape reads.room.sectors_left reads.tree
          c.requires.over.inside (g.met.P.SectorView.well_formed c.args.space.now) c.requires.over.whole (λ tells. (c.requires.over.holds tells).stands);
    }))

pub returns-clause-over : goal.returns-clause-over
returns-clause-over g c =
    over_read c.args.tree.now _ c.args.desk.now _ (g.P.SectorView.space c.args.space.now) _ c.requires.over (returns-clause-reads g c)
    (subst (λ (s : TreeShape). IsDeskOf s.node_size c.search_behind.new.desk) (sym (returns-clause-reads g c).keeps.shape) c.search_behind.ensures.desk)

pub returns-clause-below : goal.returns-clause-below
returns-clause-below g c =
    let space_is = c.space-1.given.1 (sym (ap (λ (l : List ℕ). get_or l 1 0) c.search_behind.ensures.reads.same.names)) in
    rw space_is c.search_behind.ensures.below.1

pub invariant_of-on-clause-inside : goal.invariant_of-on-clause-inside
invariant_of-on-clause-inside g c = c.requires.over.inside
