use Rattle.std.proofs.Common.{◌≡◌, ℕ, List, [], get_or, sym, ◌∙◌, ap, subst}
use Rattle.std.specs.Prelude.{IfOk}
use Rattle.btree_node.specs.Keys.{IsAttrKey, attr_cmp, anything}
use Rattle.btree_node.specs.Levels.{Pair}
use Rattle.btree_node.specs.TreeFile.{attributes_form}
use Rattle.btree_node.specs.declared.store.TreeShape.{TreeShape}
use Rattle.btree_edit.specs.Desk.{IsDeskOf}
use Rattle.btree_file.proofs.StandingLaws.{tree_held, pairs_held}
use Rattle.attributes.specs.Values.{AreValued, value_at}
use Rattle.volume_base.proofs.NodesRead.{keeps_read, looks_read}
use Rattle.volume_base.proofs.Over.{attributes_over_read}
use Rattle.volume_base.proofs.values.find_value.Goals as goal

pub value_of-requires-clause-tree : goal.value_of-requires-clause-tree
value_of-requires-clause-tree g c tells = tree_held attributes_form IsAttrKey anything attr_cmp _ c.args.tree.now (g.P.SectorView.space c.args.space.now) (c.requires.over.holds tells)

pub value_of-requires-clause-form : goal.value_of-requires-clause-form
value_of-requires-clause-form g c tells =
    subst AreValued (sym (pairs_held attributes_form IsAttrKey anything attr_cmp [] c.args.tree.now (g.P.SectorView.space c.args.space.now) (c.requires.over.holds tells))) (c.requires.over.values tells)

pub returns-clause-found : goal.returns-clause-found
returns-clause-found g c tells =
    subst (λ (l : List Pair). IfOk c.value_of.result (λ found. found ≡ value_at l c.args.id c.args.name.now))
    (pairs_held attributes_form IsAttrKey anything attr_cmp [] c.args.tree.now (g.P.SectorView.space c.args.space.now) (c.requires.over.holds tells)) (c.value_of.ensures.found tells)

pub returns-clause-reads : goal.returns-clause-reads
returns-clause-reads g c =
    let reads = c.value_of.ensures.reads in
    let tree_is = c.tree-1.given.1 (sym (ap (λ (l : List ℕ). get_or l 0 0) reads.same.names)) in
    let space_is = c.space-1.given.1 (sym (ap (λ (l : List ℕ). get_or l 1 0) reads.same.names)) in
    rw tree_is (rw space_is (record {
      keeps = keeps_read _ _ c.args.tree.now c.value_of.new.store.tree.now (g.P.SectorView.space c.args.space.now) (g.P.SectorView.space c.value_of.new.store.space.now) c.value_of.ensures.below.0 reads.shape reads.tree
          (λ tells. (c.requires.over.holds tells).stands.agrees) (λ tells. c.value_of.new.store.agrees (reads.same.tells ∙ tells));
      looks = looks_read _ _ c.args.tree.now c.value_of.new.store.tree.now (g.P.SectorView.space c.args.space.now) (g.P.SectorView.space c.value_of.new.store.space.now) c.value_of.ensures.below.0 reads.shape reads.room.sectors_left reads.tree
          c.requires.over.inside (g.met.P.SectorView.well_formed c.args.space.now) c.requires.over.whole (λ tells. (c.requires.over.holds tells).stands);
    }))

pub returns-clause-over : goal.returns-clause-over
returns-clause-over g c =
    attributes_over_read c.args.tree.now _ c.args.desk.now _ (g.P.SectorView.space c.args.space.now) _ c.requires.over (returns-clause-reads g c)
    (subst (λ (s : TreeShape). IsDeskOf s.node_size c.value_of.new.desk) (sym (returns-clause-reads g c).keeps.shape) c.value_of.ensures.desk)

pub returns-clause-below : goal.returns-clause-below
returns-clause-below g c =
    let space_is = c.space-1.given.1 (sym (ap (λ (l : List ℕ). get_or l 1 0) c.value_of.ensures.reads.same.names)) in
    rw space_is c.value_of.ensures.below.1

pub invariant_of-on-clause-inside : goal.invariant_of-on-clause-inside
invariant_of-on-clause-inside g c = c.requires.over.inside
