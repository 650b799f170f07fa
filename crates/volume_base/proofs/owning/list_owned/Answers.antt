use Rattle.std.proofs.Common.{◌≡◌, ℕ, List, [], get_or, sym, ◌∙◌, ap, subst}
use Rattle.std.specs.Prelude.{IfOk}
use Rattle.btree_node.specs.Keys.{IsAttrKey, attr_cmp, anything}
use Rattle.btree_node.specs.Levels.{Pair}
use Rattle.btree_node.specs.TreeFile.{attributes_form}
use Rattle.btree_node.specs.declared.store.TreeShape.{TreeShape}
use Rattle.btree_edit.specs.Desk.{IsDeskOf}
use Rattle.btree_file.proofs.StandingLaws.{tree_held, pairs_held}
use Rattle.attributes.specs.Owned.{names_of}
use Rattle.attributes.specs.Values.{AreValued}
use Rattle.volume_base.proofs.NodesRead.{keeps_read, looks_read}
use Rattle.volume_base.proofs.Over.{attributes_over_read}
use Rattle.volume_base.proofs.owning.list_owned.Goals as goal

pub list-requires-clause-tree : goal.list-requires-clause-tree
list-requires-clause-tree g c tells = tree_held attributes_form IsAttrKey anything attr_cmp _ c.args.tree.now (g.P.SectorView.space c.args.space.now) (c.requires.over.holds tells)

pub list-requires-clause-form : goal.list-requires-clause-form
list-requires-clause-form g c tells =
    subst AreValued (sym (pairs_held attributes_form IsAttrKey anything attr_cmp [] c.args.tree.now (g.P.SectorView.space c.args.space.now) (c.requires.over.holds tells))) (c.requires.over.values tells)

pub returns-clause-listed : goal.returns-clause-listed
returns-clause-listed g c tells =
    subst (λ (l : List Pair). IfOk c.list.result (λ names. names ≡ names_of c.args.id l))
    (pairs_held attributes_form IsAttrKey anything attr_cmp [] c.args.tree.now (g.P.SectorView.space c.args.space.now) (c.requires.over.holds tells)) (c.list.ensures.listed tells)

pub returns-clause-reads : goal.returns-clause-reads
returns-clause-reads g c =
    let reads = c.list.ensures.reads in
    let tree_is = c.tree-1.given.1 (sym (ap (λ (l : List ℕ). get_or l 0 0) reads.same.names)) in
    let space_is = c.space-1.given.1 (sym (ap (λ (l : List ℕ). get_or l 1 0) reads.same.names)) in
    rw tree_is (rw space_is (record {
      keeps = keeps_read _ _ c.args.tree.now c.list.new.store.tree.now (g.P.SectorView.space c.args.space.now) (g.P.SectorView.space c.list.new.store.space.now) c.list.ensures.below.0 reads.shape reads.tree
          (λ tells. (c.requires.over.holds tells).stands.agrees) (λ tells. c.list.new.store.agrees (reads.same.tells ∙ tells));
      looks = looks_read _ _ c.args.tree.now c.list.new.store.tree.now (g.P.SectorView.space c.args.space.now) (g.P.SectorView.space c.list.new.store.space.now) c.list.ensures.below.0 reads.shape reads.room.sectors_left reads.tree
          c.requires.over.inside (g.met.P.SectorView.well_formed c.args.space.now) c.requires.over.whole (λ tells. (c.requires.over.holds tells).stands);
    }))

pub returns-clause-over : goal.returns-clause-over
returns-clause-over g c =
    attributes_over_read c.args.tree.now _ c.args.desk.now _ (g.P.SectorView.space c.args.space.now) _ c.requires.over (returns-clause-reads g c)
    (subst (λ (s : TreeShape). IsDeskOf s.node_size c.list.new.desk) (sym (returns-clause-reads g c).keeps.shape) c.list.ensures.desk)

pub returns-clause-below : goal.returns-clause-below
returns-clause-below g c =
    let space_is = c.space-1.given.1 (sym (ap (λ (l : List ℕ). get_or l 1 0) c.list.ensures.reads.same.names)) in
    rw space_is c.list.ensures.below.1

pub invariant_of-on-clause-inside : goal.invariant_of-on-clause-inside
invariant_of-on-clause-inside g c = c.requires.over.inside
