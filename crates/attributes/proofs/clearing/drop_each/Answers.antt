use Rattle.std.proofs.Common.{refl, ◌∙◌, subst, arith}
use Rattle.btree_node.specs.Tree.{pairs_of}
use Rattle.btree_edit.specs.Edits.{EditRoom}
use Rattle.attributes.specs.Dropping.{DropsCounted}
use Rattle.attributes.specs.Owned.{is_of}
use Rattle.attributes.proofs.Removing.{counted_enough, counted_none, counted_one, counted_stop}
use Rattle.attributes.proofs.Rounds.{room_next, room_round}
use Rattle.attributes.proofs.Framing.{edits_none, edits_ok, edits_err, edits_upto, edits_then, ready_again}
use Rattle.attributes.proofs.clearing.drop_each.Goals as goal

pub loop-dropped-init : goal.loop-dropped-init
loop-dropped-init g c =
    let s = g.N.NodeStore.state c.args.store.now in
    record {
      within = omega arith;
      form = c.requires.form;
      counted = λ tells. counted_none (is_of c.args.id) (pairs_of s) _ refl c.new.ensures;
      room = λ tells. subst (λ n. EditRoom n 266 s) (omega arith) (c.requires.room tells);
      later = omega arith;
      frame = edits_none g.N.NodeStore.state g.N.NodeStore.follows 266 c.args.store.now c.requires.ready g.met.N.NodeStore.follows_refl;
    }

pub drop_next-requires-clause-room : goal.drop_next-requires-clause-room
drop_next-requires-clause-room g c = room_round c.args.most c.loop-dropped._dropped 266 (g.N.NodeStore.state c.loop-dropped.store) (omega (arith, c.loop-dropped-test.true)) c.loop-dropped.invariant.room

pub returns-then-not-branch-clause-dropped : goal.returns-then-not-branch-clause-dropped
returns-then-not-branch-clause-dropped g c tells =
    let s = g.N.NodeStore.state c.args.store.now in
    let now = g.N.NodeStore.state c.loop-dropped.store in
    let new = g.N.NodeStore.state c.drop_next.new.store in
    let stop = subst (DropsCounted (is_of c.args.id) (pairs_of now) (pairs_of new) c.loop-dropped.gone c.drop_next.new.gone) c.if-not-branch.true (c.in_ok-drop_next.ensures.dropped (c.loop-dropped.invariant.frame.same.tells ∙ tells)) in
    (counted_stop (is_of c.args.id) c.loop-dropped._dropped (pairs_of s) (pairs_of now) (pairs_of new) c.loop-dropped.gone c.drop_next.new.gone (c.loop-dropped.invariant.counted tells) stop).0

pub returns-then-not-branch-clause-counted : goal.returns-then-not-branch-clause-counted
returns-then-not-branch-clause-counted g c tells =
    let s = g.N.NodeStore.state c.args.store.now in
    let now = g.N.NodeStore.state c.loop-dropped.store in
    let new = g.N.NodeStore.state c.drop_next.new.store in
    let stop = subst (DropsCounted (is_of c.args.id) (pairs_of now) (pairs_of new) c.loop-dropped.gone c.drop_next.new.gone) c.if-not-branch.true (c.in_ok-drop_next.ensures.dropped (c.loop-dropped.invariant.frame.same.tells ∙ tells)) in
    (counted_stop (is_of c.args.id) c.loop-dropped._dropped (pairs_of s) (pairs_of now) (pairs_of new) c.loop-dropped.gone c.drop_next.new.gone (c.loop-dropped.invariant.counted tells) stop).1

pub loop-dropped-preserved : goal.loop-dropped-preserved
loop-dropped-preserved g c =
    let s = g.N.NodeStore.state c.args.store.now in
    let now = g.N.NodeStore.state c.loop-dropped.store in
    let new = g.N.NodeStore.state c.drop_next.new.store in
    let known = c.loop-dropped.invariant in
    let done = c.in_ok-drop_next.ensures in
    record {
      within = omega (arith, c.loop-dropped-test.true);
      form = λ tells. done.form (known.frame.same.tells ∙ tells);
      counted = λ tells.
          let one = subst (DropsCounted (is_of c.args.id) (pairs_of now) (pairs_of new) c.loop-dropped.gone c.drop_next.new.gone) c.if-not-branch.false (done.dropped (known.frame.same.tells ∙ tells)) in
          counted_one (is_of c.args.id) c.loop-dropped._dropped c.args.most (pairs_of s) (pairs_of now) (pairs_of new) one.0 c.loop-dropped.gone c.drop_next.new.gone (known.counted tells) (omega (arith, c.loop-dropped-test.true)) c.ranges.most.fits one.1 one.2;
      room = room_next c.args.most c.loop-dropped._dropped 266 now new (omega (arith, c.loop-dropped-test.true)) c.drop_next.ensures.frame.same done.frame.edits known.room;
      later = omega (arith, known.later, c.drop_next.ensures.cause.later);
      frame = edits_ok (edits_then known.frame done.frame g.met.N.NodeStore.follows_trans);
    }

pub returns-clause-dropped : goal.returns-clause-dropped
returns-clause-dropped g c tells =
    let s = g.N.NodeStore.state c.args.store.now in
    let now = g.N.NodeStore.state c.loop-dropped.store in
    (counted_enough (is_of c.args.id) c.loop-dropped._dropped (pairs_of s) (pairs_of now) c.loop-dropped.gone (c.loop-dropped.invariant.counted tells) (omega (arith, c.requires.few tells, c.loop-dropped-test.false))).0

pub returns-clause-counted : goal.returns-clause-counted
returns-clause-counted g c tells =
    let s = g.N.NodeStore.state c.args.store.now in
    let now = g.N.NodeStore.state c.loop-dropped.store in
    (counted_enough (is_of c.args.id) c.loop-dropped._dropped (pairs_of s) (pairs_of now) c.loop-dropped.gone (c.loop-dropped.invariant.counted tells) (omega (arith, c.requires.few tells, c.loop-dropped-test.false))).1

pub drop_next-requires-clause-ready : goal.drop_next-requires-clause-ready
drop_next-requires-clause-ready g c = ready_again c.loop-dropped.invariant.frame c.requires.ready

pub returns-in_err-drop_next-clause-frame : goal.returns-in_err-drop_next-clause-frame
returns-in_err-drop_next-clause-frame g c =
    edits_upto c.args.most (edits_err _ c.from_residual.ensures.1 (edits_then c.loop-dropped.invariant.frame c.in_err-drop_next.ensures.frame g.met.N.NodeStore.follows_trans)) (omega (arith, c.loop-dropped-test.true))

pub returns-then-not-branch-clause-frame : goal.returns-then-not-branch-clause-frame
returns-then-not-branch-clause-frame g c =
    edits_upto c.args.most (edits_ok (edits_then c.loop-dropped.invariant.frame c.in_ok-drop_next.ensures.frame g.met.N.NodeStore.follows_trans)) (omega (arith, c.loop-dropped-test.true))

pub returns-clause-frame : goal.returns-clause-frame
returns-clause-frame g c = edits_upto c.args.most (edits_ok c.loop-dropped.invariant.frame) c.loop-dropped.invariant.within
