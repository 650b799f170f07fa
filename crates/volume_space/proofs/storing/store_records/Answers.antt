use Rattle.std.proofs.Common.{ℕ, List, [], get_or, map, sym, ◌∙◌, ap, subst}
use Rattle.btree_node.specs.Keys.{IsExtentKey, extent_cmp, is_eight_extents}
use Rattle.btree_node.specs.Levels.{Pair}
use Rattle.btree_node.specs.Tree.{pairs_of}
use Rattle.btree_node.specs.TreeFile.{extents_form}
use Rattle.btree_file.specs.State.{state_of}
use Rattle.btree_file.proofs.StandingLaws.{tree_held, pairs_held, values_held}
use Rattle.hfs_volume.specs.Forks.{in_use}
use Rattle.hfs_volume.specs.Records.{overflow_of}
use Rattle.overflow.specs.Reading.{HasExtents}
use Rattle.volume_base.specs.Spreading.{StoresFork}
use Rattle.volume_base.proofs.EditsOn.{pairs_again}
use Rattle.volume_space.proofs.ExtentsEdited.{holds_again, stores_both, told_so}
use Rattle.volume_space.proofs.EditsTaken.{stored_taken, light_taken}
use Rattle.volume_space.proofs.storing.store_records.Goals as goal

pub store_fork-requires-clause-tree : goal.store_fork-requires-clause-tree
store_fork-requires-clause-tree g c tells = tree_held extents_form IsExtentKey is_eight_extents extent_cmp _ c.args.tree.now (g.P.SectorView.space c.args.space.now) (c.requires.holds tells)

pub store_fork-requires-clause-values : goal.store_fork-requires-clause-values
store_fork-requires-clause-values g c tells = values_held extents_form IsExtentKey is_eight_extents extent_cmp [] c.args.tree.now (g.P.SectorView.space c.args.space.now) (c.requires.holds tells)

pub store_fork-requires-clause-holds : goal.store_fork-requires-clause-holds
store_fork-requires-clause-holds g c tells =
    subst (λ (l : List Pair). HasExtents (map overflow_of l) c.args.id c.args.kind c.args.old.now)
    (sym (pairs_held extents_form IsExtentKey is_eight_extents extent_cmp [] c.args.tree.now (g.P.SectorView.space c.args.space.now) (c.requires.holds tells))) (c.requires.has tells)

pub store_fork-requires-clause-room : goal.store_fork-requires-clause-room
store_fork-requires-clause-room g c = c.requires.room _

pub returns-clause-stores : goal.returns-clause-stores
returns-clause-stores g c tells =
    let space_is = c.space-1.given.1 (sym (ap (λ (l : List ℕ). get_or l 1 0) c.store_fork.ensures.same.names)) in
    rw space_is (told_so _ c.store_fork.result (pairs_again [] c.args.tree.now c.store_fork.new.store.tree.now (g.P.SectorView.space c.args.space.now) (g.P.SectorView.space c.store_fork.new.store.space.now) tells c.store_fork.ensures.below.0
    (λ answer before after. StoresFork c.args.id c.args.kind (in_use c.args.new.now) before after) c.store_fork.result (c.requires.holds tells).stands (c.store_fork.new.store.agrees (c.store_fork.ensures.same.tells ∙ tells)) (c.store_fork.ensures.header tells (c.requires.holds tells).stands.settled)
    (stores_both c.args.id c.args.kind (in_use c.args.new.now) (pairs_of (state_of [] c.args.tree.now (g.P.SectorView.space c.args.space.now))) (pairs_of (state_of [] c.store_fork.new.store.tree.now (g.P.SectorView.space c.store_fork.new.store.space.now))) c.store_fork.result (c.store_fork.ensures.records tells) (c.store_fork.ensures.others tells))))

pub returns-clause-holds : goal.returns-clause-holds
returns-clause-holds g c tells =
    let tree_is = c.tree-1.given.1 (sym (ap (λ (l : List ℕ). get_or l 0 0) c.store_fork.ensures.same.names)) in
    let space_is = c.space-1.given.1 (sym (ap (λ (l : List ℕ). get_or l 1 0) c.store_fork.ensures.same.names)) in
    rw (tree_is, space_is) (holds_again _ c.args.tree.now c.store_fork.new.store.tree.now (g.P.SectorView.space c.args.space.now) (g.P.SectorView.space c.store_fork.new.store.space.now) tells c.store_fork.ensures.below.0 c.store_fork.result
    (c.requires.holds tells) (c.store_fork.new.store.agrees (c.store_fork.ensures.same.tells ∙ tells)) (c.store_fork.ensures.header tells (c.requires.holds tells).stands.settled) (c.store_fork.ensures.tree tells) (c.store_fork.ensures.values tells))

pub returns-clause-frame : goal.returns-clause-frame
returns-clause-frame g c =
    let tree_is = c.tree-1.given.1 (sym (ap (λ (l : List ℕ). get_or l 0 0) c.store_fork.ensures.same.names)) in
    let space_is = c.space-1.given.1 (sym (ap (λ (l : List ℕ). get_or l 1 0) c.store_fork.ensures.same.names)) in
    rw (tree_is, space_is) c.store_fork.ensures.below.0

pub returns-clause-below : goal.returns-clause-below
returns-clause-below g c =
    let space_is = c.space-1.given.1 (sym (ap (λ (l : List ℕ). get_or l 1 0) c.store_fork.ensures.same.names)) in
    rw space_is c.store_fork.ensures.below.1

pub invariant_of-on-clause-inside : goal.invariant_of-on-clause-inside
invariant_of-on-clause-inside g c = c.requires.inside

pub returns-clause-spent : goal.returns-clause-spent
returns-clause-spent g c tells edits few =
    let space_is = c.space-1.given.1 (sym (ap (λ (l : List ℕ). get_or l 1 0) c.store_fork.ensures.same.names)) in
    rw space_is (stored_taken c.edits_take_their_load.ensures _ c.args.tree.now (g.P.SectorView.space c.args.space.now) _ c.args.id c.args.kind c.args.new.now edits tells c.store_fork.ensures.same c.store_fork.ensures.takes few)

pub returns-clause-light : goal.returns-clause-light
returns-clause-light g c tells changes few =
    let space_is = c.space-1.given.1 (sym (ap (λ (l : List ℕ). get_or l 1 0) c.store_fork.ensures.same.names)) in
    rw space_is (light_taken _ c.args.tree.now (g.P.SectorView.space c.args.space.now) _ c.args.id c.args.kind c.args.new.now changes (c.store_fork.ensures.light tells) few)
