use Rattle.std.proofs.Common.{◌+◌, ◌∙◌, arith}
use Rattle.std.specs.Prelude.{IsTrue}
use Rattle.btree_node.specs.Tree.{pairs_of}
use Rattle.btree_edit.proofs.EditLaws.{room_first, room_then}
use Rattle.attributes.proofs.Places.{tree_ascends, rising_sorted}
use Rattle.attributes.proofs.Put.{put_valued, sets_value}
use Rattle.attributes.proofs.Framing.{edits_none, edits_ok, edits_err, edits_more, edits_then, ready_again, edits_upto}
use Rattle.attributes.proofs.setting.set.Goals as goal

pub returns-clause-set : goal.returns-clause-set
returns-clause-set g c tells =
    let s = g.N.NodeStore.state c.args.store.now in
    let bared = g.N.NodeStore.state c.drop_name.new.store in
    let new = g.N.NodeStore.state c.insert_pair.new.store in
    let tells_bared : IsTrue bared.tells = c.drop_name.ensures.frame.same.tells ∙ tells in
    sets_value c.args.id c.args.name.now c.args.value.now c.in_ok-pair.pair (pairs_of s) bared (pairs_of new) c.in_ok-insert_pair.field-0 c.in_ok-pair.ensures (c.in_ok-drop_name.ensures.dropped tells)
    (c.in_ok-insert_pair.ensures.answer tells_bared) (c.in_ok-insert_pair.ensures.pairs tells_bared)

pub returns-clause-form : goal.returns-clause-form
returns-clause-form g c tells =
    let s = g.N.NodeStore.state c.args.store.now in
    let bared = g.N.NodeStore.state c.drop_name.new.store in
    let new = g.N.NodeStore.state c.insert_pair.new.store in
    let tells_bared : IsTrue bared.tells = c.drop_name.ensures.frame.same.tells ∙ tells in
    put_valued c.args.id c.args.name.now c.args.value.now c.in_ok-pair.pair bared (pairs_of new) c.in_ok-insert_pair.field-0 c.requires.some c.in_ok-pair.ensures (c.in_ok-insert_pair.ensures.pairs tells_bared) (c.in_ok-drop_name.ensures.form tells)

pub returns-clause-sorted : goal.returns-clause-sorted
returns-clause-sorted g c tells =
    let new = g.N.NodeStore.state c.insert_pair.new.store in
    rising_sorted (pairs_of new) (tree_ascends new (c.in_ok-insert_pair.ensures.frame.tree (c.drop_name.ensures.frame.same.tells ∙ tells)))

pub drop_name-requires-clause-room : goal.drop_name-requires-clause-room
drop_name-requires-clause-room g c = room_first c.args.most 1 266 (g.N.NodeStore.state c.args.store.now) c.requires.room

pub insert_pair-requires-clause-room : goal.insert_pair-requires-clause-room
insert_pair-requires-clause-room g c =
    room_then c.args.most 1 266 (g.N.NodeStore.state c.args.store.now) (g.N.NodeStore.state c.drop_name.new.store) c.drop_name.ensures.frame.same c.in_ok-drop_name.ensures.frame.edits c.requires.room

pub returns-in_err-pair-clause-frame : goal.returns-in_err-pair-clause-frame
returns-in_err-pair-clause-frame g c = edits_upto (c.args.most + 1) (edits_none g.N.NodeStore.state g.N.NodeStore.follows 266 c.args.store.now c.requires.ready g.met.N.NodeStore.follows_refl) (omega arith)

pub returns-in_err-drop_name-clause-frame : goal.returns-in_err-drop_name-clause-frame
returns-in_err-drop_name-clause-frame g c = edits_err _ c.from_residual-in_err-drop_name.ensures.1 (edits_more 1 c.in_err-drop_name.ensures.frame)

pub insert_pair-requires-clause-ready : goal.insert_pair-requires-clause-ready
insert_pair-requires-clause-ready g c = ready_again c.in_ok-drop_name.ensures.frame c.requires.ready

pub returns-in_err-insert_pair-clause-frame : goal.returns-in_err-insert_pair-clause-frame
returns-in_err-insert_pair-clause-frame g c = edits_err _ c.from_residual-in_err-insert_pair.ensures.1 (edits_then c.in_ok-drop_name.ensures.frame c.in_err-insert_pair.ensures.frame g.met.N.NodeStore.follows_trans)

pub returns-clause-frame : goal.returns-clause-frame
returns-clause-frame g c = edits_ok (edits_then c.in_ok-drop_name.ensures.frame c.in_ok-insert_pair.ensures.frame g.met.N.NodeStore.follows_trans)
