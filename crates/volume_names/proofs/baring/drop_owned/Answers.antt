use Rattle.std.proofs.Common.{◌≤◌, ℕ, List, [], get_or, sym, ◌∙◌, ap, subst}
use Rattle.std.specs.Prelude.{Ok}
use Rattle.attributes.specs.Owned.{count_of, extents_owned}
use Rattle.btree_node.specs.Levels.{Pair}
use Rattle.hfs_volume.specs.Commands.{DropsAttributes}
use Rattle.volume_base.proofs.EditsOn.{pairs_again}
use Rattle.volume_base.proofs.AttributesThrough.{editable_through, pairs_through, valued_through, edits_through, through_ok, through_err}
use Rattle.volume_names.proofs.baring.drop_owned.Goals as goal

pub drop_all-requires-clause-few : goal.drop_all-requires-clause-few
drop_all-requires-clause-few g c tells = subst (λ (l : List Pair). count_of c.args.id l ≤ c.args.most) (sym (pairs_through c.requires.ready tells)) (c.requires.few tells)

pub drop_all-requires-clause-room : goal.drop_all-requires-clause-room
drop_all-requires-clause-room g c = c.requires.room _

pub returns-clause-blocks : goal.returns-clause-blocks
returns-clause-blocks g c tells = c.in_ok-dropped.ensures.blocks tells ∙ ap (λ (l : List Pair). extents_owned l c.args.id) (pairs_through c.requires.ready tells)

pub returns-clause-dropped : goal.returns-clause-dropped
returns-clause-dropped g c tells =
    let space_is = c.space-1.given.1 (sym (ap (λ (l : List ℕ). get_or l 1 0) c.drop_all.ensures.frame.same.names)) in
    rw space_is (pairs_again [] c.args.tree.now c.drop_all.new.store.tree.now (g.P.SectorView.space c.args.space.now) (g.P.SectorView.space c.drop_all.new.store.space.now) tells c.drop_all.ensures.frame.below.0
    (λ answer before after. DropsAttributes c.args.id before after) (Ok c.in_ok-dropped.dropped) (c.requires.ready.holds tells).stands (c.drop_all.new.store.agrees (c.drop_all.ensures.frame.same.tells ∙ tells)) (c.in_ok-dropped.ensures.frame.header tells (c.requires.ready.holds tells).stands.settled) (c.in_ok-dropped.ensures.dropped tells))

pub drop_all-requires-clause-ready : goal.drop_all-requires-clause-ready
drop_all-requires-clause-ready g c = editable_through _ c.requires.ready

pub drop_all-requires-clause-form : goal.drop_all-requires-clause-form
drop_all-requires-clause-form g c = valued_through c.requires.ready

pub invariant_of-on-clause-inside : goal.invariant_of-on-clause-inside
invariant_of-on-clause-inside g c = c.requires.ready.inside

pub invariant_of-on-clause-open_sectors : goal.invariant_of-on-clause-open_sectors
invariant_of-on-clause-open_sectors g c = c.requires.ready.open_sectors

pub returns-clause-edits : goal.returns-clause-edits
returns-clause-edits g c =
    let tree_is = c.tree-1.given.1 (sym (ap (λ (l : List ℕ). get_or l 0 0) c.drop_all.ensures.frame.same.names)) in
    let space_is = c.space-1.given.1 (sym (ap (λ (l : List ℕ). get_or l 1 0) c.drop_all.ensures.frame.same.names)) in
    rw (tree_is, space_is) (through_ok (edits_through g.P.SectorView.space g.P.SectorView.follows _ _ c.args.tree.now c.drop_all.new.store.tree.now c.args.space.now c.drop_all.new.store.space.now (Ok c.in_ok-dropped.dropped) c.requires.ready c.in_ok-dropped.ensures.frame.below c.in_ok-dropped.ensures.frame.same.tells c.drop_all.new.store.agrees
    c.in_ok-dropped.ensures.frame.desk c.in_ok-dropped.ensures.frame.takes c.in_ok-dropped.ensures.frame.edits c.in_ok-dropped.ensures.frame.tree c.in_ok-dropped.ensures.frame.header c.in_ok-dropped.ensures.sorted c.in_ok-dropped.ensures.cause))

pub returns-in_err-dropped-clause-edits : goal.returns-in_err-dropped-clause-edits
returns-in_err-dropped-clause-edits g c =
    let tree_is = c.tree-1.given.1 (sym (ap (λ (l : List ℕ). get_or l 0 0) c.drop_all.ensures.frame.same.names)) in
    let space_is = c.space-1.given.1 (sym (ap (λ (l : List ℕ). get_or l 1 0) c.drop_all.ensures.frame.same.names)) in
    rw (tree_is, space_is) (through_err c.from_residual.ensures.1 (edits_through g.P.SectorView.space g.P.SectorView.follows _ _ c.args.tree.now c.drop_all.new.store.tree.now c.args.space.now c.drop_all.new.store.space.now _ c.requires.ready c.in_err-dropped.ensures.frame.below c.in_err-dropped.ensures.frame.same.tells c.drop_all.new.store.agrees
    c.in_err-dropped.ensures.frame.desk c.in_err-dropped.ensures.frame.takes c.in_err-dropped.ensures.frame.edits c.in_err-dropped.ensures.frame.tree c.in_err-dropped.ensures.frame.header c.in_err-dropped.ensures.sorted c.in_err-dropped.ensures.cause))
