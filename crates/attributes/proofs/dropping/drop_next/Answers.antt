use Rattle.std.proofs.Common.{◌≡◌, List, sym, subst, ◌∙◌, arith}
use Rattle.std.specs.Prelude.{[], IsTrue, slice_index_or, ⊤, Ok}
use Rattle.btree_node.specs.Levels.{Pair}
use Rattle.btree_node.specs.Tree.{pairs_of, IsTree}
use Rattle.attributes.specs.Dropping.{DropsOne, FindsCounted, IsFirstAt}
use Rattle.attributes.specs.Owned.{is_of}
use Rattle.attributes.specs.Values.{AreSpelled}
use Rattle.attributes.proofs.BeforeEdits.{tree_read, pairs_read}
use Rattle.attributes.proofs.Removing.{removal_of_first}
use Rattle.attributes.proofs.Framing.{edits_read, edits_ok, edits_err, edits_then, ready_again, edits_upto}
use Rattle.btree_node.specs.Keys.{IsAttrKey, attr_cmp}
use Rattle.attributes.proofs.dropping.drop_next.Goals as goal

pub returns-in-None-clause-dropped : goal.returns-in-None-clause-dropped
returns-in-None-clause-dropped g c tells =
    let s = g.N.NodeStore.state c.args.store.now in
    let total = (g.met.N.NodeStore.well_formed c.args.store.now).total in
    let finds = subst (FindsCounted (is_of c.args.id) (pairs_of s) c.args.gone.now c.next_owned.new.gone) c.in-None.is (c.in_ok-next_owned.ensures.found tells) in
    (pairs_read _ s (g.N.NodeStore.state c.next_owned.new.store) c.next_owned.ensures.reads tells total (c.requires.ready.tree tells), finds.0, finds.1)

pub returns-in-None-clause-form : goal.returns-in-None-clause-form
returns-in-None-clause-form g c tells =
    let s = g.N.NodeStore.state c.args.store.now in
    let total = (g.met.N.NodeStore.well_formed c.args.store.now).total in
    subst AreSpelled (sym (pairs_read _ s (g.N.NodeStore.state c.next_owned.new.store) c.next_owned.ensures.reads tells total (c.requires.ready.tree tells))) (c.requires.form tells)

pub returns-in_ok-remove_key-in-Some-clause-dropped : goal.returns-in_ok-remove_key-in-Some-clause-dropped
returns-in_ok-remove_key-in-Some-clause-dropped g c tells =
    let s = g.N.NodeStore.state c.args.store.now in
    let read = g.N.NodeStore.state c.next_owned.new.store in
    let new = g.N.NodeStore.state c.remove_key.new.store in
    let tells_read : IsTrue read.tells = c.next_owned.ensures.reads.same.tells ∙ tells in
    let total = (g.met.N.NodeStore.well_formed c.args.store.now).total in
    let tree = tree_read _ s read c.next_owned.ensures.reads tells total (c.requires.ready.tree tells) in
    let same = pairs_read _ s read c.next_owned.ensures.reads tells total (c.requires.ready.tree tells) in
    let found = subst (FindsCounted (is_of c.args.id) (pairs_of s) c.args.gone.now c.next_owned.new.gone) c.in-Some.is (c.in_ok-next_owned.ensures.found tells) in
    let first = subst (λ l. IsFirstAt (is_of c.args.id) l found.0) (sym same) found.1 in
    let own = subst (λ (l : List Pair). (slice_index_or l found.0 ([], [])).0 ≡ c.in-Some.own) (sym same) found.2 in
    let gone = removal_of_first (is_of c.args.id) (c.as_slice.result.now) c.in-Some.own read (pairs_of new) c.in_ok-remove_key-in-Some.field-0 tree found.0 first own (sym c.as_slice.ensures)
    (c.in_ok-remove_key-in-Some.ensures.answer tells_read) (c.in_ok-remove_key-in-Some.ensures.pairs tells_read) in
    (slice_index_or (pairs_of s) found.0 ([], []), subst (λ l. DropsOne (is_of c.args.id) (slice_index_or l found.0 ([], [])) l (pairs_of new)) same gone, found.3)

pub returns-in_ok-remove_key-in-Some-clause-form : goal.returns-in_ok-remove_key-in-Some-clause-form
returns-in_ok-remove_key-in-Some-clause-form g c tells =
    let s = g.N.NodeStore.state c.args.store.now in
    let total = (g.met.N.NodeStore.well_formed c.args.store.now).total in
    c.in_ok-remove_key-in-Some.ensures.form (c.next_owned.ensures.reads.same.tells ∙ tells)
    (subst AreSpelled (sym (pairs_read _ s (g.N.NodeStore.state c.next_owned.new.store) c.next_owned.ensures.reads tells total (c.requires.ready.tree tells))) (c.requires.form tells))

pub returns-in_err-next_owned-clause-frame : goal.returns-in_err-next_owned-clause-frame
returns-in_err-next_owned-clause-frame g c =
    let s = g.N.NodeStore.state c.args.store.now in
    let read = g.N.NodeStore.state c.next_owned.new.store in
    let still : IsTrue s.tells → IsTree IsAttrKey attr_cmp read = λ tells. tree_read _ s read c.next_owned.ensures.reads tells (g.met.N.NodeStore.well_formed c.args.store.now).total (c.requires.ready.tree tells) in
    edits_upto 1 (edits_read g.N.NodeStore.state g.N.NodeStore.follows 266 c.args.store.now c.next_owned.new.store c.next_owned.ensures.reads c.next_owned.ensures.desk c.next_owned.ensures.cause.later c.next_owned.ensures.below still) (omega arith)

pub returns-in-None-clause-frame : goal.returns-in-None-clause-frame
returns-in-None-clause-frame g c =
    let s = g.N.NodeStore.state c.args.store.now in
    let read = g.N.NodeStore.state c.next_owned.new.store in
    let still : IsTrue s.tells → IsTree IsAttrKey attr_cmp read = λ tells. tree_read _ s read c.next_owned.ensures.reads tells (g.met.N.NodeStore.well_formed c.args.store.now).total (c.requires.ready.tree tells) in
    edits_upto 1 (edits_read g.N.NodeStore.state g.N.NodeStore.follows 266 c.args.store.now c.next_owned.new.store c.next_owned.ensures.reads c.next_owned.ensures.desk c.next_owned.ensures.cause.later c.next_owned.ensures.below still) (omega arith)

pub remove_key-requires-clause-ready : goal.remove_key-requires-clause-ready
remove_key-requires-clause-ready g c =
    let s = g.N.NodeStore.state c.args.store.now in
    let read = g.N.NodeStore.state c.next_owned.new.store in
    let still : IsTrue s.tells → IsTree IsAttrKey attr_cmp read = λ tells. tree_read _ s read c.next_owned.ensures.reads tells (g.met.N.NodeStore.well_formed c.args.store.now).total (c.requires.ready.tree tells) in
    ready_again (edits_read {T = ⊤} {E = ⊤} {result = Ok tt} g.N.NodeStore.state g.N.NodeStore.follows 266 c.args.store.now c.next_owned.new.store c.next_owned.ensures.reads c.next_owned.ensures.desk c.next_owned.ensures.cause.later c.next_owned.ensures.below still) c.requires.ready

pub returns-in_err-remove_key-in-Some-clause-frame : goal.returns-in_err-remove_key-in-Some-clause-frame
returns-in_err-remove_key-in-Some-clause-frame g c =
    let s = g.N.NodeStore.state c.args.store.now in
    let read = g.N.NodeStore.state c.next_owned.new.store in
    let still : IsTrue s.tells → IsTree IsAttrKey attr_cmp read = λ tells. tree_read _ s read c.next_owned.ensures.reads tells (g.met.N.NodeStore.well_formed c.args.store.now).total (c.requires.ready.tree tells) in
    edits_err _ c.from_residual-in_err-remove_key-in-Some.ensures.1 (edits_then (edits_read {T = ⊤} {E = ⊤} {result = Ok tt} g.N.NodeStore.state g.N.NodeStore.follows 266 c.args.store.now c.next_owned.new.store c.next_owned.ensures.reads c.next_owned.ensures.desk c.next_owned.ensures.cause.later c.next_owned.ensures.below still) c.in_err-remove_key-in-Some.ensures.frame g.met.N.NodeStore.follows_trans)

pub returns-in_ok-remove_key-in-Some-clause-frame : goal.returns-in_ok-remove_key-in-Some-clause-frame
returns-in_ok-remove_key-in-Some-clause-frame g c =
    let s = g.N.NodeStore.state c.args.store.now in
    let read = g.N.NodeStore.state c.next_owned.new.store in
    let still : IsTrue s.tells → IsTree IsAttrKey attr_cmp read = λ tells. tree_read _ s read c.next_owned.ensures.reads tells (g.met.N.NodeStore.well_formed c.args.store.now).total (c.requires.ready.tree tells) in
    edits_ok (edits_then (edits_read {T = ⊤} {E = ⊤} {result = Ok tt} g.N.NodeStore.state g.N.NodeStore.follows 266 c.args.store.now c.next_owned.new.store c.next_owned.ensures.reads c.next_owned.ensures.desk c.next_owned.ensures.cause.later c.next_owned.ensures.below still) c.in_ok-remove_key-in-Some.ensures.frame g.met.N.NodeStore.follows_trans)
