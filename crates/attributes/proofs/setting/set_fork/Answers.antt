use Rattle.std.proofs.Common.{◌≡◌, ◌+◌, List, length, sym, ◌∙◌, ap, subst, arith}
use Rattle.std.specs.Prelude.{All, IsTrue}
use Rattle.btree_node.specs.Tree.{pairs_of}
use Rattle.btree_edit.proofs.EditLaws.{room_first, room_then}
use Rattle.btree_edit.specs.Edits.{EditRoom}
use Rattle.hfs_volume.specs.Cost.{overflow_records}
use Rattle.hfs_volume.specs.Forks.{in_use}
use Rattle.overflow.proofs.Cutting.{in_use_used}
use Rattle.attributes.specs.Forks.{IsShortPair, PutsParts, SpellParts, parts_of}
use Rattle.attributes.specs.declared.pair.AttributePair.{AttributePair}
use Rattle.attributes.proofs.ForkParts.{as_many, parts_many, parts_rise, short_parts}
use Rattle.attributes.proofs.ForkSet.{fork_is_set, fork_valued, none_of_name}
use Rattle.attributes.proofs.Places.{tree_ascends, rising_sorted}
use Rattle.attributes.proofs.Framing.{edits_none, edits_ok, edits_err, edits_more, edits_upto, edits_then, ready_again}
use Rattle.attributes.proofs.setting.set_fork.Goals as goal

pub drop_name-requires-clause-room : goal.drop_name-requires-clause-room
drop_name-requires-clause-room g c = room_first c.args.most (1 + overflow_records (length (in_use c.args.fork.now))) 266 (g.N.NodeStore.state c.args.store.now) c.requires.room

pub insert_pairs-requires-clause-keys : goal.insert_pairs-requires-clause-keys
insert_pairs-requires-clause-keys g c =
    subst (All IsShortPair) (sym c.as_slice.ensures.value) (short_parts c.args.id c.args.name.now (parts_of c.args.size (in_use c.args.fork.now)) c.in_ok-pairs.pairs.items c.requires.name c.in_ok-pairs.ensures)

pub insert_pairs-requires-clause-room : goal.insert_pairs-requires-clause-room
insert_pairs-requires-clause-room g c =
    let s = g.N.NodeStore.state c.args.store.now in
    let bared = g.N.NodeStore.state c.drop_name.new.store in
    let extents = in_use c.args.fork.now in
    let many : length c.as_slice.result.now ≡ 1 + overflow_records (length extents) =
    ap (λ (l : List AttributePair). length l) c.as_slice.ensures.value ∙ as_many c.args.id c.args.name.now (parts_of c.args.size extents) c.in_ok-pairs.pairs.items c.in_ok-pairs.ensures ∙ parts_many c.args.size extents in
    subst (λ n. IsTrue bared.tells → EditRoom n 266 bared) (sym many) (room_then c.args.most (1 + overflow_records (length extents)) 266 s bared c.drop_name.ensures.frame.same c.in_ok-drop_name.ensures.frame.edits c.requires.room)

pub returns-clause-set : goal.returns-clause-set
returns-clause-set g c tells =
    let s = g.N.NodeStore.state c.args.store.now in
    let bared = g.N.NodeStore.state c.drop_name.new.store in
    let new = g.N.NodeStore.state c.insert_pairs.new.store in
    let extents = in_use c.args.fork.now in
    let parts = parts_of c.args.size extents in
    let drops = c.in_ok-drop_name.ensures.dropped tells in
    let puts = c.in_ok-insert_pairs.ensures.put (c.drop_name.ensures.frame.same.tells ∙ tells) c.args.id c.args.name.now parts (subst (SpellParts c.args.id c.args.name.now parts) (sym c.as_slice.ensures.value) c.in_ok-pairs.ensures)
    (parts_rise c.args.size extents (in_use_used c.args.fork.now)) c.requires.some (c.in_ok-drop_name.ensures.form tells).each (none_of_name c.args.id c.args.name.now (pairs_of s) (pairs_of bared) drops) in
    fork_is_set c.args.id c.args.name.now c.args.size c.args.fork.now c.in_ok-pairs.pairs.items (pairs_of s) (pairs_of bared) (pairs_of new) c.in_ok-pairs.ensures drops
    (subst (λ l. PutsParts c.args.id c.args.name.now l (pairs_of bared) (pairs_of new)) c.as_slice.ensures.value puts)

pub returns-clause-form : goal.returns-clause-form
returns-clause-form g c tells =
    let s = g.N.NodeStore.state c.args.store.now in
    let bared = g.N.NodeStore.state c.drop_name.new.store in
    let new = g.N.NodeStore.state c.insert_pairs.new.store in
    let extents = in_use c.args.fork.now in
    let parts = parts_of c.args.size extents in
    let drops = c.in_ok-drop_name.ensures.dropped tells in
    let puts = c.in_ok-insert_pairs.ensures.put (c.drop_name.ensures.frame.same.tells ∙ tells) c.args.id c.args.name.now parts (subst (SpellParts c.args.id c.args.name.now parts) (sym c.as_slice.ensures.value) c.in_ok-pairs.ensures)
    (parts_rise c.args.size extents (in_use_used c.args.fork.now)) c.requires.some (c.in_ok-drop_name.ensures.form tells).each (none_of_name c.args.id c.args.name.now (pairs_of s) (pairs_of bared) drops) in
    let own = subst (λ l. PutsParts c.args.id c.args.name.now l (pairs_of bared) (pairs_of new)) c.as_slice.ensures.value puts in
    fork_valued c.args.id c.args.name.now c.args.size c.args.fork.now c.in_ok-pairs.pairs.items (pairs_of s) (pairs_of bared) (pairs_of new)
    (fork_is_set c.args.id c.args.name.now c.args.size c.args.fork.now c.in_ok-pairs.pairs.items (pairs_of s) (pairs_of bared) (pairs_of new) c.in_ok-pairs.ensures drops own) own (c.requires.form tells)

pub returns-clause-sorted : goal.returns-clause-sorted
returns-clause-sorted g c tells =
    let new = g.N.NodeStore.state c.insert_pairs.new.store in
    rising_sorted (pairs_of new) (tree_ascends new (c.in_ok-insert_pairs.ensures.frame.tree (c.drop_name.ensures.frame.same.tells ∙ tells)))

pub returns-in_err-pairs-clause-frame : goal.returns-in_err-pairs-clause-frame
returns-in_err-pairs-clause-frame g c = edits_upto _ (edits_none g.N.NodeStore.state g.N.NodeStore.follows 266 c.args.store.now c.requires.ready g.met.N.NodeStore.follows_refl) (omega arith)

pub returns-in_err-drop_name-clause-frame : goal.returns-in_err-drop_name-clause-frame
returns-in_err-drop_name-clause-frame g c = edits_err _ c.from_residual-in_err-drop_name.ensures.1 (edits_more (1 + overflow_records (length (in_use c.args.fork.now))) c.in_err-drop_name.ensures.frame)

pub insert_pairs-requires-clause-ready : goal.insert_pairs-requires-clause-ready
insert_pairs-requires-clause-ready g c = ready_again c.in_ok-drop_name.ensures.frame c.requires.ready

pub returns-in_err-insert_pairs-clause-frame : goal.returns-in_err-insert_pairs-clause-frame
returns-in_err-insert_pairs-clause-frame g c =
    let extents = in_use c.args.fork.now in
    let many : length c.as_slice.result.now ≡ 1 + overflow_records (length extents) =
    ap (λ (l : List AttributePair). length l) c.as_slice.ensures.value ∙ as_many c.args.id c.args.name.now (parts_of c.args.size extents) c.in_ok-pairs.pairs.items c.in_ok-pairs.ensures ∙ parts_many c.args.size extents in
    edits_upto _ (edits_err _ c.from_residual-in_err-insert_pairs.ensures.1 (edits_then c.in_ok-drop_name.ensures.frame c.in_err-insert_pairs.ensures.frame g.met.N.NodeStore.follows_trans)) (omega (arith, many))

pub returns-clause-frame : goal.returns-clause-frame
returns-clause-frame g c =
    let extents = in_use c.args.fork.now in
    let many : length c.as_slice.result.now ≡ 1 + overflow_records (length extents) =
    ap (λ (l : List AttributePair). length l) c.as_slice.ensures.value ∙ as_many c.args.id c.args.name.now (parts_of c.args.size extents) c.in_ok-pairs.pairs.items c.in_ok-pairs.ensures ∙ parts_many c.args.size extents in
    edits_upto _ (edits_ok (edits_then c.in_ok-drop_name.ensures.frame c.in_ok-insert_pairs.ensures.frame g.met.N.NodeStore.follows_trans)) (omega (arith, many))
