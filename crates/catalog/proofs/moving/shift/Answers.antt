use Rattle.std.proofs.Common.{sym, subst}
use Rattle.std.specs.Prelude.{IsTrue}
use Rattle.btree_node.specs.Keys.{catalog_cmp}
use Rattle.btree_node.specs.Tree.{pairs_of}
use Rattle.btree_edit.specs.Desk.{HasKey}
use Rattle.btree_edit.proofs.EditLaws.{takes_fewer, takes_both, edits_add, room_then, room_first}
use Rattle.catalog.proofs.Moves.{replacement_is_done, key_still, key_before, left_was_there}
use Rattle.catalog.proofs.Pairs.{insert_is_done}
use Rattle.catalog.proofs.Standing.{removal_is_done}
use Rattle.catalog.proofs.moving.shift.Goals as goal

pub replace_pair-requires-clause-room : goal.replace_pair-requires-clause-room
replace_pair-requires-clause-room g c = room_first 1 2 516 (g.N.NodeStore.state c.args.store.now) c.requires.room

pub returns-in_err-replace_pair-clause-takes : goal.returns-in_err-replace_pair-clause-takes
returns-in_err-replace_pair-clause-takes g c = takes_fewer 1 2 516 (g.N.NodeStore.state c.args.store.now) (g.N.NodeStore.state c.replace_pair.new.store) c.replace_pair.ensures.takes

pub remove_key-requires-clause-room : goal.remove_key-requires-clause-room
remove_key-requires-clause-room g c =
    let s = g.N.NodeStore.state c.args.store.now in
    let told = g.N.NodeStore.state c.replace_pair.new.store in
    room_first 1 1 516 told (room_then 1 2 516 s told c.replace_pair.ensures.same c.in_ok-replace_pair.ensures.edits c.requires.room)

pub returns-in_err-remove_key-clause-takes : goal.returns-in_err-remove_key-clause-takes
returns-in_err-remove_key-clause-takes g c =
    let s = g.N.NodeStore.state c.args.store.now in
    let told = g.N.NodeStore.state c.replace_pair.new.store in
    let less = g.N.NodeStore.state c.remove_key.new.store in
    takes_both 1 2 516 s told less c.replace_pair.ensures.same c.in_ok-replace_pair.ensures.edits (takes_fewer 1 1 516 told less c.remove_key.ensures.takes)

pub insert_pair-requires-clause-room : goal.insert_pair-requires-clause-room
insert_pair-requires-clause-room g c =
    let s = g.N.NodeStore.state c.args.store.now in
    let told = g.N.NodeStore.state c.replace_pair.new.store in
    let less = g.N.NodeStore.state c.remove_key.new.store in
    room_then 1 1 516 told less c.remove_key.ensures.same c.in_ok-remove_key.ensures.edits
    (room_then 1 2 516 s told c.replace_pair.ensures.same c.in_ok-replace_pair.ensures.edits c.requires.room)

pub returns-in_err-insert_pair-clause-takes : goal.returns-in_err-insert_pair-clause-takes
returns-in_err-insert_pair-clause-takes g c =
    let s = g.N.NodeStore.state c.args.store.now in
    let told = g.N.NodeStore.state c.replace_pair.new.store in
    let less = g.N.NodeStore.state c.remove_key.new.store in
    let new = g.N.NodeStore.state c.insert_pair.new.store in
    takes_both 1 2 516 s told new c.replace_pair.ensures.same c.in_ok-replace_pair.ensures.edits
    (takes_both 1 1 516 told less new c.remove_key.ensures.same c.in_ok-remove_key.ensures.edits c.insert_pair.ensures.takes)

pub returns-clause-pairs : goal.returns-clause-pairs
returns-clause-pairs g c tells has_thread has_entry vacant =
    let s = g.N.NodeStore.state c.args.store.now in
    let told = g.N.NodeStore.state c.replace_pair.new.store in
    let less = g.N.NodeStore.state c.remove_key.new.store in
    let new = g.N.NodeStore.state c.insert_pair.new.store in
    let thread = c.args.thread.now in
    let entry = c.args.entry.now in
    let key = c.args.key.now in
    let tells_told : IsTrue told.tells = subst IsTrue (sym c.replace_pair.ensures.same.tells) tells in
    let tells_less : IsTrue less.tells = subst IsTrue (sym c.remove_key.ensures.same.tells) tells_told in
    let changes = replacement_is_done thread.key thread.value s (pairs_of told) c.in_ok-replace_pair.field-0 has_thread (c.in_ok-replace_pair.ensures.answer tells) (c.in_ok-replace_pair.ensures.pairs tells) in
    let still = key_still thread.key thread.value (pairs_of s) (pairs_of told) changes key has_entry in
    let drops = removal_is_done key told (pairs_of less) c.in_ok-remove_key.field-0 still (c.in_ok-remove_key.ensures.answer tells_told) (c.in_ok-remove_key.ensures.pairs tells_told) in
    let absent : HasKey catalog_cmp entry.key (pairs_of less) → ⊥ = λ has. vacant (key_before thread.key thread.value (pairs_of s) (pairs_of told) changes entry.key (left_was_there key entry.key (pairs_of told) (pairs_of less) drops has)) in
    record {
      told = pairs_of told;
      tells = changes;
      between = pairs_of less;
      out = drops;
      back = insert_is_done catalog_cmp entry.key entry.value less (pairs_of new) c.in_ok-insert_pair.field-0 absent (c.in_ok-insert_pair.ensures.answer tells_less) (c.in_ok-insert_pair.ensures.pairs tells_less);
    }

pub returns-clause-edits : goal.returns-clause-edits
returns-clause-edits g c =
    let s = g.N.NodeStore.state c.args.store.now in
    let told = g.N.NodeStore.state c.replace_pair.new.store in
    let less = g.N.NodeStore.state c.remove_key.new.store in
    let new = g.N.NodeStore.state c.insert_pair.new.store in
    edits_add 1 2 516 s told new c.replace_pair.ensures.same c.in_ok-replace_pair.ensures.edits
    (edits_add 1 1 516 told less new c.remove_key.ensures.same c.in_ok-remove_key.ensures.edits c.in_ok-insert_pair.ensures.edits)

pub returns-clause-takes : goal.returns-clause-takes
returns-clause-takes g c =
    let s = g.N.NodeStore.state c.args.store.now in
    let told = g.N.NodeStore.state c.replace_pair.new.store in
    let less = g.N.NodeStore.state c.remove_key.new.store in
    let new = g.N.NodeStore.state c.insert_pair.new.store in
    takes_both 1 2 516 s told new c.replace_pair.ensures.same c.in_ok-replace_pair.ensures.edits
    (takes_both 1 1 516 told less new c.remove_key.ensures.same c.in_ok-remove_key.ensures.edits c.insert_pair.ensures.takes)
