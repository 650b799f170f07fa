use Rattle.std.proofs.Common.{◌≤◌, ℕ, List, [], get_or, sym, ◌∙◌, ap, subst}
use Rattle.std.specs.Prelude.{IfOk}
use Rattle.attributes.specs.Values.{AnswersDelete, extents_at, records_at, value_at}
use Rattle.btree_node.specs.Levels.{Pair}
use Rattle.hfs_volume.specs.Changes.{DropsAttribute}
use Rattle.volume_base.proofs.EditsOn.{pairs_again}
use Rattle.volume_base.proofs.AttributesThrough.{editable_through, pairs_through, valued_through, edits_through}
use Rattle.volume_base.proofs.valuing.delete_value.Goals as goal

pub delete-requires-clause-few : goal.delete-requires-clause-few
delete-requires-clause-few g c tells =
    subst (λ (l : List Pair). records_at l c.args.id c.args.name.now ≤ c.args.most) (sym (pairs_through c.requires.ready tells)) (c.requires.few tells)

pub delete-requires-clause-room : goal.delete-requires-clause-room
delete-requires-clause-room g c = c.requires.room _

pub returns-clause-deleted : goal.returns-clause-deleted
returns-clause-deleted g c tells =
    let space_is = c.space-1.given.1 (sym (ap (λ (l : List ℕ). get_or l 1 0) c.delete.ensures.frame.same.names)) in
    rw space_is (pairs_again [] c.args.tree.now c.delete.new.store.tree.now (g.P.SectorView.space c.args.space.now) (g.P.SectorView.space c.delete.new.store.space.now) tells c.delete.ensures.frame.below.0
    (λ answer before after. DropsAttribute c.args.id c.args.name.now before after) c.delete.result (c.requires.ready.holds tells).stands (c.delete.new.store.agrees (c.delete.ensures.frame.same.tells ∙ tells)) (c.delete.ensures.frame.header tells (c.requires.ready.holds tells).stands.settled) (c.delete.ensures.deleted tells))

pub returns-clause-answer : goal.returns-clause-answer
returns-clause-answer g c tells =
    subst (λ (l : List Pair). IfOk c.delete.result (λ answer. AnswersDelete (value_at l c.args.id c.args.name.now) (extents_at l c.args.id c.args.name.now) answer)) (pairs_through c.requires.ready tells) (c.delete.ensures.answer tells)

pub delete-requires-clause-ready : goal.delete-requires-clause-ready
delete-requires-clause-ready g c = editable_through _ c.requires.ready

pub delete-requires-clause-form : goal.delete-requires-clause-form
delete-requires-clause-form g c = valued_through c.requires.ready

pub invariant_of-on-clause-inside : goal.invariant_of-on-clause-inside
invariant_of-on-clause-inside g c = c.requires.ready.inside

pub invariant_of-on-clause-open_sectors : goal.invariant_of-on-clause-open_sectors
invariant_of-on-clause-open_sectors g c = c.requires.ready.open_sectors

pub returns-clause-edits : goal.returns-clause-edits
returns-clause-edits g c =
    let tree_is = c.tree-1.given.1 (sym (ap (λ (l : List ℕ). get_or l 0 0) c.delete.ensures.frame.same.names)) in
    let space_is = c.space-1.given.1 (sym (ap (λ (l : List ℕ). get_or l 1 0) c.delete.ensures.frame.same.names)) in
    rw (tree_is, space_is) (edits_through g.P.SectorView.space g.P.SectorView.follows _ _ c.args.tree.now c.delete.new.store.tree.now c.args.space.now c.delete.new.store.space.now c.delete.result c.requires.ready c.delete.ensures.frame.below c.delete.ensures.frame.same.tells c.delete.new.store.agrees
    c.delete.ensures.frame.desk c.delete.ensures.frame.takes c.delete.ensures.frame.edits c.delete.ensures.frame.tree c.delete.ensures.frame.header c.delete.ensures.sorted c.delete.ensures.cause)
