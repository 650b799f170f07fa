use Rattle.std.proofs.Common.{◌≡◌, ℕ, List, [], get_or, sym, ◌∙◌, ap, subst}
use Rattle.std.specs.Prelude.{IfOk}
use Rattle.btree_node.specs.Keys.{IsCatalogKey, catalog_cmp, anything}
use Rattle.btree_node.specs.Levels.{Pair}
use Rattle.btree_node.specs.TreeFile.{catalog_form}
use Rattle.btree_node.specs.declared.store.TreeShape.{TreeShape}
use Rattle.btree_edit.specs.Desk.{IsDeskOf}
use Rattle.btree_file.proofs.StandingLaws.{tree_held, pairs_held}
use Rattle.hard_links.specs.Identity.{identity_of}
use Rattle.hfs_volume.specs.Entries.{AreSpelled}
use Rattle.volume_base.proofs.NodesRead.{keeps_read, looks_read}
use Rattle.volume_base.proofs.Over.{over_read}
use Rattle.volume_base.proofs.owning.resolve_over.Goals as goal

pub resolve-requires-clause-tree : goal.resolve-requires-clause-tree
resolve-requires-clause-tree g c tells = tree_held catalog_form IsCatalogKey anything catalog_cmp _ c.args.tree.now (g.P.SectorView.space c.args.space.now) (c.requires.over.holds tells)

pub resolve-requires-clause-spelled : goal.resolve-requires-clause-spelled
resolve-requires-clause-spelled g c tells =
    subst AreSpelled (sym (pairs_held catalog_form IsCatalogKey anything catalog_cmp [] c.args.tree.now (g.P.SectorView.space c.args.space.now) (c.requires.over.holds tells))) (c.requires.over.spelled tells)

pub returns-clause-identity : goal.returns-clause-identity
returns-clause-identity g c tells =
    subst (λ (l : List Pair). IfOk c.resolve.result (λ own. own ≡ identity_of l c.args.private c.args.file.now))
    (pairs_held catalog_form IsCatalogKey anything catalog_cmp [] c.args.tree.now (g.P.SectorView.space c.args.space.now) (c.requires.over.holds tells)) (c.resolve.ensures.identity tells)

pub returns-clause-reads : goal.returns-clause-reads
returns-clause-reads g c =
    let reads = c.resolve.ensures.reads in
    let tree_is = c.tree-1.given.1 (sym (ap (λ (l : List ℕ). get_or l 0 0) reads.same.names)) in
    let space_is = c.space-1.given.1 (sym (ap (λ (l : List ℕ). get_or l 1 0) reads.same.names)) in
    rw tree_is (rw space_is (record {
      keeps = keeps_read _ _ c.args.tree.now c.resolve.new.store.tree.now (g.P.SectorView.space c.args.space.now) (g.P.SectorView.space c.resolve.new.store.space.now) c.resolve.ensures.below.0 reads.shape reads.tree
          (λ tells. (c.requires.over.holds tells).stands.agrees) (λ tells. c.resolve.new.store.agrees (reads.same.tells ∙ tells));
      looks = looks_read _ _ c.args.tree.now c.resolve.new.store.tree.now (g.P.SectorView.space c.args.space.now) (g.P.SectorView.space c.resolve.new.store.space.now) c.resolve.ensures.below.0 reads.shape reads.room.sectors_left reads.tree
          c.requires.over.inside (g.met.P.SectorView.well_formed c.args.space.now) c.requires.over.whole (λ tells. (c.requires.over.holds tells).stands);
    }))

pub returns-clause-over : goal.returns-clause-over
returns-clause-over g c =
    over_read c.args.tree.now _ c.args.desk.now _ (g.P.SectorView.space c.args.space.now) _ c.requires.over (returns-clause-reads g c)
    (subst (λ (s : TreeShape). IsDeskOf s.node_size c.resolve.new.desk) (sym (returns-clause-reads g c).keeps.shape) c.resolve.ensures.desk)

pub returns-clause-below : goal.returns-clause-below
returns-clause-below g c =
    let space_is = c.space-1.given.1 (sym (ap (λ (l : List ℕ). get_or l 1 0) c.resolve.ensures.reads.same.names)) in
    rw space_is c.resolve.ensures.below.1

pub invariant_of-on-clause-inside : goal.invariant_of-on-clause-inside
invariant_of-on-clause-inside g c = c.requires.over.inside
