use Rattle.std.proofs.Common.{◌≡◌, ℕ, List, [], get_or, sym, ◌∙◌, ap, subst}
use Rattle.std.specs.Prelude.{map, IfOk}
use Rattle.btree_node.specs.Keys.{IsExtentKey, extent_cmp, is_eight_extents}
use Rattle.btree_node.specs.Levels.{Pair}
use Rattle.btree_node.specs.TreeFile.{extents_form}
use Rattle.btree_file.proofs.StandingLaws.{tree_held, values_held, pairs_held}
use Rattle.hfs_volume.specs.Blocks.{GoesOn}
use Rattle.hfs_volume.specs.Forks.{extents_of}
use Rattle.hfs_volume.specs.Records.{overflow_of}
use Rattle.volume_base.proofs.NodesRead.{keeps_read, looks_read}
use Rattle.volume_base.proofs.looking.load_extents.Goals as goal

pub load_fork-requires-clause-tree : goal.load_fork-requires-clause-tree
load_fork-requires-clause-tree g c tells = tree_held extents_form IsExtentKey is_eight_extents extent_cmp _ c.args.tree.now (g.P.SectorView.space c.args.space.now) (c.requires.holds tells)

pub load_fork-requires-clause-values : goal.load_fork-requires-clause-values
load_fork-requires-clause-values g c tells = values_held extents_form IsExtentKey is_eight_extents extent_cmp [] c.args.tree.now (g.P.SectorView.space c.args.space.now) (c.requires.holds tells)

pub load_fork-requires-clause-goes_on : goal.load_fork-requires-clause-goes_on
load_fork-requires-clause-goes_on g c tells =
    subst (λ (l : List Pair). GoesOn (map overflow_of l) (record { id = c.args.id; kind = c.args.kind; fork = c.args.rec.now }))
    (sym (pairs_held extents_form IsExtentKey is_eight_extents extent_cmp [] c.args.tree.now (g.P.SectorView.space c.args.space.now) (c.requires.holds tells))) (c.requires.goes_on tells)

pub returns-clause-found : goal.returns-clause-found
returns-clause-found g c tells =
    subst (λ (l : List Pair). IfOk c.load_fork.result (λ list. list ≡ extents_of (map overflow_of l) c.args.id c.args.kind c.args.rec.now))
    (pairs_held extents_form IsExtentKey is_eight_extents extent_cmp [] c.args.tree.now (g.P.SectorView.space c.args.space.now) (c.requires.holds tells)) (c.load_fork.ensures.found tells)

pub returns-clause-keeps : goal.returns-clause-keeps
returns-clause-keeps g c =
    let reads = c.load_fork.ensures.reads.1 in
    let tree_is = c.tree-1.given.1 (sym (ap (λ (l : List ℕ). get_or l 0 0) reads.same.names)) in
    rw tree_is (keeps_read _ _ c.args.tree.now c.load_fork.new.store.tree.now (g.P.SectorView.space c.args.space.now) (g.P.SectorView.space c.load_fork.new.store.space.now) c.load_fork.ensures.below.0 reads.shape reads.tree
    (λ tells. (c.requires.holds tells).stands.agrees) (λ tells. c.load_fork.new.store.agrees (reads.same.tells ∙ tells)))

pub returns-clause-looks : goal.returns-clause-looks
returns-clause-looks g c =
    let reads = c.load_fork.ensures.reads.1 in
    let space_is = c.space-1.given.1 (sym (ap (λ (l : List ℕ). get_or l 1 0) reads.same.names)) in
    rw space_is (looks_read _ _ c.args.tree.now c.load_fork.new.store.tree.now (g.P.SectorView.space c.args.space.now) (g.P.SectorView.space c.load_fork.new.store.space.now) c.load_fork.ensures.below.0 reads.shape reads.room.sectors_left reads.tree
    c.requires.inside (g.met.P.SectorView.well_formed c.args.space.now) c.requires.whole (λ tells. (c.requires.holds tells).stands))

pub returns-clause-below : goal.returns-clause-below
returns-clause-below g c =
    let reads = c.load_fork.ensures.reads.1 in
    let space_is = c.space-1.given.1 (sym (ap (λ (l : List ℕ). get_or l 1 0) reads.same.names)) in
    rw space_is c.load_fork.ensures.below.1

pub invariant_of-on-clause-inside : goal.invariant_of-on-clause-inside
invariant_of-on-clause-inside g c = c.requires.inside
