use Rattle.std.proofs.Common.{◌≡◌, sym, ◌∙◌, subst, arith}
use Rattle.btree_node.specs.Keys.{attr_file, attr_units}
use Rattle.btree_node.specs.Tree.{pairs_of}
use Rattle.btree_edit.specs.Edits.{EditRoom}
use Rattle.attributes.specs.Dropping.{DropsFirst, is_named}
use Rattle.attributes.proofs.Removing.{gone_enough, gone_none, gone_one, gone_stop}
use Rattle.attributes.proofs.Rounds.{room_next, room_round}
use Rattle.attributes.proofs.Framing.{edits_ok, edits_err, edits_upto, edits_then, ready_again, edits_none}
use Rattle.attributes.proofs.clearing.drop_under.Goals as goal

pub loop-dropped-init : goal.loop-dropped-init
loop-dropped-init g c =
    let s = g.N.NodeStore.state c.args.store.now in
    record {
      within = omega arith;
      form = c.requires.form;
      gone = λ tells. gone_none (is_named (attr_file c.args.key.now) (attr_units c.args.key.now)) (pairs_of s) c.args.blocks.now;
      room = λ tells. subst (λ n. EditRoom n 266 s) (omega arith) (c.requires.room tells);
      later = omega arith;
      frame = edits_none g.N.NodeStore.state g.N.NodeStore.follows 266 c.args.store.now c.requires.ready g.met.N.NodeStore.follows_refl;
    }

pub drop_first-requires-clause-room : goal.drop_first-requires-clause-room
drop_first-requires-clause-room g c = room_round c.args.most c.loop-dropped.dropped 266 (g.N.NodeStore.state c.loop-dropped.store) (omega (arith, c.loop-dropped-test.true)) c.loop-dropped.invariant.room

pub returns-then-not-branch-clause-count : goal.returns-then-not-branch-clause-count
returns-then-not-branch-clause-count g c tells =
    let s = g.N.NodeStore.state c.args.store.now in
    let now = g.N.NodeStore.state c.loop-dropped.store in
    let new = g.N.NodeStore.state c.drop_first.new.store in
    let stop = subst (DropsFirst (is_named (attr_file c.args.key.now) (attr_units c.args.key.now)) (pairs_of now) (pairs_of new) c.loop-dropped.blocks c.drop_first.new.blocks) c.if-not-branch.true (c.in_ok-drop_first.ensures.dropped (c.loop-dropped.invariant.frame.same.tells ∙ tells)) in
    (gone_stop (is_named (attr_file c.args.key.now) (attr_units c.args.key.now)) c.loop-dropped.dropped (pairs_of s) (pairs_of now) (pairs_of new) c.args.blocks.now c.loop-dropped.blocks c.drop_first.new.blocks (c.loop-dropped.invariant.gone tells) stop).1

pub returns-then-not-branch-clause-dropped : goal.returns-then-not-branch-clause-dropped
returns-then-not-branch-clause-dropped g c tells =
    let s = g.N.NodeStore.state c.args.store.now in
    let now = g.N.NodeStore.state c.loop-dropped.store in
    let new = g.N.NodeStore.state c.drop_first.new.store in
    let stop = subst (DropsFirst (is_named (attr_file c.args.key.now) (attr_units c.args.key.now)) (pairs_of now) (pairs_of new) c.loop-dropped.blocks c.drop_first.new.blocks) c.if-not-branch.true (c.in_ok-drop_first.ensures.dropped (c.loop-dropped.invariant.frame.same.tells ∙ tells)) in
    (gone_stop (is_named (attr_file c.args.key.now) (attr_units c.args.key.now)) c.loop-dropped.dropped (pairs_of s) (pairs_of now) (pairs_of new) c.args.blocks.now c.loop-dropped.blocks c.drop_first.new.blocks (c.loop-dropped.invariant.gone tells) stop).0

pub loop-dropped-preserved : goal.loop-dropped-preserved
loop-dropped-preserved g c =
    let s = g.N.NodeStore.state c.args.store.now in
    let now = g.N.NodeStore.state c.loop-dropped.store in
    let new = g.N.NodeStore.state c.drop_first.new.store in
    let known = c.loop-dropped.invariant in
    let done = c.in_ok-drop_first.ensures in
    record {
      within = omega (arith, c.loop-dropped-test.true);
      form = λ tells. done.form (known.frame.same.tells ∙ tells);
      gone = λ tells.
          let one = subst (DropsFirst (is_named (attr_file c.args.key.now) (attr_units c.args.key.now)) (pairs_of now) (pairs_of new) c.loop-dropped.blocks c.drop_first.new.blocks) c.if-not-branch.false (done.dropped (known.frame.same.tells ∙ tells)) in
          gone_one (is_named (attr_file c.args.key.now) (attr_units c.args.key.now)) c.loop-dropped.dropped (pairs_of s) (pairs_of now) (pairs_of new) one.0 c.args.blocks.now c.loop-dropped.blocks c.drop_first.new.blocks (known.gone tells) one.1 one.2;
      room = room_next c.args.most c.loop-dropped.dropped 266 now new (omega (arith, c.loop-dropped-test.true)) c.drop_first.ensures.frame.same done.frame.edits known.room;
      later = omega (arith, known.later, c.drop_first.ensures.cause.later);
      frame = edits_ok (edits_then known.frame done.frame g.met.N.NodeStore.follows_trans);
    }

pub returns-clause-count : goal.returns-clause-count
returns-clause-count g c tells =
    let s = g.N.NodeStore.state c.args.store.now in
    let now = g.N.NodeStore.state c.loop-dropped.store in
    let all : c.loop-dropped.dropped ≡ c.args.most = omega (arith, c.loop-dropped.invariant.within, c.loop-dropped-test.false) in
    sym all ∙ (gone_enough (is_named (attr_file c.args.key.now) (attr_units c.args.key.now)) c.loop-dropped.dropped (pairs_of s) (pairs_of now) c.args.blocks.now c.loop-dropped.blocks (c.loop-dropped.invariant.gone tells) (omega (arith, c.requires.few tells, all))).1

pub returns-clause-dropped : goal.returns-clause-dropped
returns-clause-dropped g c tells =
    let s = g.N.NodeStore.state c.args.store.now in
    let now = g.N.NodeStore.state c.loop-dropped.store in
    let all : c.loop-dropped.dropped ≡ c.args.most = omega (arith, c.loop-dropped.invariant.within, c.loop-dropped-test.false) in
    (gone_enough (is_named (attr_file c.args.key.now) (attr_units c.args.key.now)) c.loop-dropped.dropped (pairs_of s) (pairs_of now) c.args.blocks.now c.loop-dropped.blocks (c.loop-dropped.invariant.gone tells) (omega (arith, c.requires.few tells, all))).0

pub drop_first-requires-clause-ready : goal.drop_first-requires-clause-ready
drop_first-requires-clause-ready g c = ready_again c.loop-dropped.invariant.frame c.requires.ready

pub returns-in_err-drop_first-clause-frame : goal.returns-in_err-drop_first-clause-frame
returns-in_err-drop_first-clause-frame g c =
    edits_upto c.args.most (edits_err _ c.from_residual.ensures.1 (edits_then c.loop-dropped.invariant.frame c.in_err-drop_first.ensures.frame g.met.N.NodeStore.follows_trans)) (omega (arith, c.loop-dropped-test.true))

pub returns-then-not-branch-clause-frame : goal.returns-then-not-branch-clause-frame
returns-then-not-branch-clause-frame g c =
    edits_upto c.args.most (edits_ok (edits_then c.loop-dropped.invariant.frame c.in_ok-drop_first.ensures.frame g.met.N.NodeStore.follows_trans)) (omega (arith, c.loop-dropped-test.true))

pub returns-clause-frame : goal.returns-clause-frame
returns-clause-frame g c = edits_upto c.args.most (edits_ok c.loop-dropped.invariant.frame) c.loop-dropped.invariant.within
