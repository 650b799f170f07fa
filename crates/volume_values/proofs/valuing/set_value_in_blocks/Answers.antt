use Rattle.std.proofs.Common.{◌≡◌, ◌≤◌, ℕ, List, [], get_or, sym, ◌∙◌, ap, subst}
use Rattle.std.specs.Prelude.{IfOk}
use Rattle.attributes.specs.Values.{AreValued, extents_at, records_at}
use Rattle.btree_node.specs.Levels.{Pair}
use Rattle.hfs_volume.specs.Changes.{SetsFork}
use Rattle.hfs_volume.specs.Forks.{in_use}
use Rattle.volume_base.proofs.EditsOn.{pairs_again}
use Rattle.volume_base.proofs.AttributesThrough.{editable_through, pairs_through, valued_through, edits_through}
use Rattle.volume_values.proofs.valuing.set_value_in_blocks.Goals as goal

pub set_fork-requires-clause-few : goal.set_fork-requires-clause-few
set_fork-requires-clause-few g c tells =
    subst (λ (l : List Pair). records_at l c.args.id c.args.name.now ≤ c.args.most) (sym (pairs_through c.requires.ready tells)) (c.requires.few tells)

pub set_fork-requires-clause-room : goal.set_fork-requires-clause-room
set_fork-requires-clause-room g c = c.requires.room _

pub returns-clause-blocks : goal.returns-clause-blocks
returns-clause-blocks g c tells =
    subst (λ (l : List Pair). IfOk c.set_fork.result (λ blocks. blocks ≡ extents_at l c.args.id c.args.name.now)) (pairs_through c.requires.ready tells) (c.set_fork.ensures.blocks tells)

pub returns-clause-set : goal.returns-clause-set
returns-clause-set g c tells =
    let space_is = c.space-1.given.1 (sym (ap (λ (l : List ℕ). get_or l 1 0) c.set_fork.ensures.frame.same.names)) in
    rw space_is (pairs_again [] c.args.tree.now c.set_fork.new.store.tree.now (g.P.SectorView.space c.args.space.now) (g.P.SectorView.space c.set_fork.new.store.space.now) tells c.set_fork.ensures.frame.below.0
    (λ answer before after. SetsFork c.args.id c.args.name.now c.args.size (in_use c.args.fork.now) before after) c.set_fork.result (c.requires.ready.holds tells).stands (c.set_fork.new.store.agrees (c.set_fork.ensures.frame.same.tells ∙ tells)) (c.set_fork.ensures.frame.header tells (c.requires.ready.holds tells).stands.settled) (c.set_fork.ensures.set tells))

pub returns-clause-values : goal.returns-clause-values
returns-clause-values g c tells =
    let space_is = c.space-1.given.1 (sym (ap (λ (l : List ℕ). get_or l 1 0) c.set_fork.ensures.frame.same.names)) in
    rw space_is (pairs_again [] c.args.tree.now c.set_fork.new.store.tree.now (g.P.SectorView.space c.args.space.now) (g.P.SectorView.space c.set_fork.new.store.space.now) tells c.set_fork.ensures.frame.below.0
    (λ answer before after. AreValued after) c.set_fork.result (c.requires.ready.holds tells).stands (c.set_fork.new.store.agrees (c.set_fork.ensures.frame.same.tells ∙ tells)) (c.set_fork.ensures.frame.header tells (c.requires.ready.holds tells).stands.settled) (c.set_fork.ensures.form tells))

pub set_fork-requires-clause-ready : goal.set_fork-requires-clause-ready
set_fork-requires-clause-ready g c = editable_through _ c.requires.ready

pub set_fork-requires-clause-form : goal.set_fork-requires-clause-form
set_fork-requires-clause-form g c = valued_through c.requires.ready

pub invariant_of-on-clause-inside : goal.invariant_of-on-clause-inside
invariant_of-on-clause-inside g c = c.requires.ready.inside

pub invariant_of-on-clause-open_sectors : goal.invariant_of-on-clause-open_sectors
invariant_of-on-clause-open_sectors g c = c.requires.ready.open_sectors

pub returns-clause-edits : goal.returns-clause-edits
returns-clause-edits g c =
    let tree_is = c.tree-1.given.1 (sym (ap (λ (l : List ℕ). get_or l 0 0) c.set_fork.ensures.frame.same.names)) in
    let space_is = c.space-1.given.1 (sym (ap (λ (l : List ℕ). get_or l 1 0) c.set_fork.ensures.frame.same.names)) in
    rw (tree_is, space_is) (edits_through g.P.SectorView.space g.P.SectorView.follows _ _ c.args.tree.now c.set_fork.new.store.tree.now c.args.space.now c.set_fork.new.store.space.now c.set_fork.result c.requires.ready c.set_fork.ensures.frame.below c.set_fork.ensures.frame.same.tells c.set_fork.new.store.agrees
    c.set_fork.ensures.frame.desk c.set_fork.ensures.frame.takes c.set_fork.ensures.frame.edits c.set_fork.ensures.frame.tree c.set_fork.ensures.frame.header c.set_fork.ensures.sorted c.set_fork.ensures.cause)
