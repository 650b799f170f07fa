use Rattle.std.proofs.Common.{◌≡◌, ◌≤◌, ℕ, List, [], get_or, sym, ◌∙◌, ap, subst}
use Rattle.std.specs.Prelude.{IfOk}
use Rattle.attributes.specs.Values.{AreValued, SetsValue, extents_at, records_at}
use Rattle.btree_node.specs.Levels.{Pair}
use Rattle.volume_base.proofs.EditsOn.{pairs_again}
use Rattle.volume_base.proofs.AttributesThrough.{editable_through, pairs_through, valued_through, edits_through}
use Rattle.volume_values.proofs.valuing.set_value.Goals as goal

pub set-requires-clause-few : goal.set-requires-clause-few
set-requires-clause-few g c tells =
    subst (λ (l : List Pair). records_at l c.args.id c.args.name.now ≤ c.args.most) (sym (pairs_through c.requires.ready tells)) (c.requires.few tells)

pub set-requires-clause-room : goal.set-requires-clause-room
set-requires-clause-room g c = c.requires.room _

pub returns-clause-blocks : goal.returns-clause-blocks
returns-clause-blocks g c tells =
    subst (λ (l : List Pair). IfOk c.set.result (λ blocks. blocks ≡ extents_at l c.args.id c.args.name.now)) (pairs_through c.requires.ready tells) (c.set.ensures.blocks tells)

pub returns-clause-set : goal.returns-clause-set
returns-clause-set g c tells =
    let space_is = c.space-1.given.1 (sym (ap (λ (l : List ℕ). get_or l 1 0) c.set.ensures.frame.same.names)) in
    rw space_is (pairs_again [] c.args.tree.now c.set.new.store.tree.now (g.P.SectorView.space c.args.space.now) (g.P.SectorView.space c.set.new.store.space.now) tells c.set.ensures.frame.below.0
    (λ answer before after. SetsValue c.args.id c.args.name.now c.args.value.now before after) c.set.result (c.requires.ready.holds tells).stands (c.set.new.store.agrees (c.set.ensures.frame.same.tells ∙ tells)) (c.set.ensures.frame.header tells (c.requires.ready.holds tells).stands.settled) (c.set.ensures.set tells))

pub returns-clause-values : goal.returns-clause-values
returns-clause-values g c tells =
    let space_is = c.space-1.given.1 (sym (ap (λ (l : List ℕ). get_or l 1 0) c.set.ensures.frame.same.names)) in
    rw space_is (pairs_again [] c.args.tree.now c.set.new.store.tree.now (g.P.SectorView.space c.args.space.now) (g.P.SectorView.space c.set.new.store.space.now) tells c.set.ensures.frame.below.0
    (λ answer before after. AreValued after) c.set.result (c.requires.ready.holds tells).stands (c.set.new.store.agrees (c.set.ensures.frame.same.tells ∙ tells)) (c.set.ensures.frame.header tells (c.requires.ready.holds tells).stands.settled) (c.set.ensures.form tells))

pub set-requires-clause-ready : goal.set-requires-clause-ready
set-requires-clause-ready g c = editable_through _ c.requires.ready

pub set-requires-clause-form : goal.set-requires-clause-form
set-requires-clause-form g c = valued_through c.requires.ready

pub invariant_of-on-clause-inside : goal.invariant_of-on-clause-inside
invariant_of-on-clause-inside g c = c.requires.ready.inside

pub invariant_of-on-clause-open_sectors : goal.invariant_of-on-clause-open_sectors
invariant_of-on-clause-open_sectors g c = c.requires.ready.open_sectors

pub returns-clause-edits : goal.returns-clause-edits
returns-clause-edits g c =
    let tree_is = c.tree-1.given.1 (sym (ap (λ (l : List ℕ). get_or l 0 0) c.set.ensures.frame.same.names)) in
    let space_is = c.space-1.given.1 (sym (ap (λ (l : List ℕ). get_or l 1 0) c.set.ensures.frame.same.names)) in
    rw (tree_is, space_is) (edits_through g.P.SectorView.space g.P.SectorView.follows _ _ c.args.tree.now c.set.new.store.tree.now c.args.space.now c.set.new.store.space.now c.set.result c.requires.ready c.set.ensures.frame.below c.set.ensures.frame.same.tells c.set.new.store.agrees
    c.set.ensures.frame.desk c.set.ensures.frame.takes c.set.ensures.frame.edits c.set.ensures.frame.tree c.set.ensures.frame.header c.set.ensures.sorted c.set.ensures.cause)
