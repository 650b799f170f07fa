use Rattle.std.proofs.Common.{◌∙◌, arith}
use Rattle.std.specs.Prelude.{◌==◌}
use Rattle.btree_node.specs.Tree.{pairs_of}
use Rattle.hfs_volume.specs.Records.{Attribute}
use Rattle.attributes.specs.Owned.{is_of}
use Rattle.attributes.proofs.Firsts.{counted_attributes, owner_valued}
use Rattle.attributes.proofs.Lists.{count_kept}
use Rattle.attributes.proofs.Places.{rising_sorted, tree_ascends}
use Rattle.attributes.proofs.Removing.{kept_extents}
use Rattle.attributes.proofs.Framing.{edits_none, edits_err, edits_upto}
use Rattle.attributes.proofs.clearing.drop_all.Goals as goal

pub drop_each-requires-clause-form : goal.drop_each-requires-clause-form
drop_each-requires-clause-form g c tells = (c.requires.form tells).each

pub drop_each-requires-clause-few : goal.drop_each-requires-clause-few
drop_each-requires-clause-few g c tells =
    let s = g.N.NodeStore.state c.args.store.now in
    omega (arith, count_kept (is_of c.args.id) (pairs_of s), c.requires.few tells)

pub returns-clause-counted : goal.returns-clause-counted
returns-clause-counted g c tells =
    let s = g.N.NodeStore.state c.args.store.now in
    c.in_ok-gone.ensures.counted tells ∙ counted_attributes c.args.id (pairs_of s) (tree_ascends s (c.requires.ready.tree tells)) (c.requires.form tells)

pub returns-clause-blocks : goal.returns-clause-blocks
returns-clause-blocks g c tells =
    let s = g.N.NodeStore.state c.args.store.now in
    (c.in_ok-gone.ensures.dropped tells).added ∙ kept_extents (λ (a : Attribute). a.id == c.args.id) (pairs_of s)

pub returns-clause-dropped : goal.returns-clause-dropped
returns-clause-dropped g c tells = (c.in_ok-gone.ensures.dropped tells).left

pub returns-clause-sorted : goal.returns-clause-sorted
returns-clause-sorted g c tells =
    let new = g.N.NodeStore.state c.drop_each.new.store in
    rising_sorted (pairs_of new) (tree_ascends new (c.in_ok-gone.ensures.frame.tree tells))

pub returns-clause-form : goal.returns-clause-form
returns-clause-form g c tells =
    let s = g.N.NodeStore.state c.args.store.now in
    let new = g.N.NodeStore.state c.drop_each.new.store in
    owner_valued c.args.id (pairs_of s) (pairs_of new) (c.in_ok-gone.ensures.dropped tells).left (c.requires.form tells)

pub returns-in_err-start-clause-frame : goal.returns-in_err-start-clause-frame
returns-in_err-start-clause-frame g c = edits_upto c.args.most (edits_none g.N.NodeStore.state g.N.NodeStore.follows 266 c.args.store.now c.requires.ready g.met.N.NodeStore.follows_refl) (omega arith)

pub returns-in_err-gone-clause-frame : goal.returns-in_err-gone-clause-frame
returns-in_err-gone-clause-frame g c = edits_err _ c.from_residual-in_err-gone.ensures.1 c.in_err-gone.ensures.frame
