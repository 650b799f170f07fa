use Rattle.std.proofs.Common.{sym, subst}
use Rattle.std.specs.Prelude.{IsTrue}
use Rattle.btree_node.specs.Tree.{pairs_of}
use Rattle.btree_edit.proofs.EditLaws.{takes_fewer, takes_both, edits_add, room_then}
use Rattle.catalog.proofs.Standing.{still_there, removal_is_done}
use Rattle.catalog.proofs.removing.remove_both.Goals as goal

pub returns-in_err-remove_key-clause-takes : goal.returns-in_err-remove_key-clause-takes
returns-in_err-remove_key-clause-takes g c = takes_fewer 1 1 516 (g.N.NodeStore.state c.args.store.now) (g.N.NodeStore.state c.remove_key.new.store) c.remove_key.ensures.takes

pub remove_key-requires-2-clause-room : goal.remove_key-requires-2-clause-room
remove_key-requires-2-clause-room g c =
    room_then 1 1 516 (g.N.NodeStore.state c.args.store.now) (g.N.NodeStore.state c.remove_key.new.store) c.remove_key.ensures.same c.in_ok-remove_key.ensures.edits c.requires.room

pub returns-in_err-remove_key-2-clause-takes : goal.returns-in_err-remove_key-2-clause-takes
returns-in_err-remove_key-2-clause-takes g c =
    takes_both 1 1 516 (g.N.NodeStore.state c.args.store.now) (g.N.NodeStore.state c.remove_key.new.store) (g.N.NodeStore.state c.remove_key-2.new.store)
    c.remove_key.ensures.same c.in_ok-remove_key.ensures.edits c.remove_key-2.ensures.takes

pub returns-clause-pairs : goal.returns-clause-pairs
returns-clause-pairs g c tells has_first has_second apart =
    let s = g.N.NodeStore.state c.args.store.now in
    let one = g.N.NodeStore.state c.remove_key.new.store in
    let two = g.N.NodeStore.state c.remove_key-2.new.store in
    let tells_one : IsTrue one.tells = subst IsTrue (sym c.remove_key.ensures.same.tells) tells in
    let first = removal_is_done c.args.first.now s (pairs_of one) c.in_ok-remove_key.field-0 has_first (c.in_ok-remove_key.ensures.answer tells) (c.in_ok-remove_key.ensures.pairs tells) in
    let still = still_there c.args.first.now c.args.second.now (pairs_of s) (pairs_of one) first apart has_second in
    record {
      between = pairs_of one;
      one = first;
      both = removal_is_done c.args.second.now one (pairs_of two) c.in_ok-remove_key-2.field-0 still (c.in_ok-remove_key-2.ensures.answer tells_one) (c.in_ok-remove_key-2.ensures.pairs tells_one);
    }

pub returns-clause-edits : goal.returns-clause-edits
returns-clause-edits g c =
    edits_add 1 1 516 (g.N.NodeStore.state c.args.store.now) (g.N.NodeStore.state c.remove_key.new.store) (g.N.NodeStore.state c.remove_key-2.new.store)
    c.remove_key.ensures.same c.in_ok-remove_key.ensures.edits c.in_ok-remove_key-2.ensures.edits

pub returns-clause-takes : goal.returns-clause-takes
returns-clause-takes g c =
    takes_both 1 1 516 (g.N.NodeStore.state c.args.store.now) (g.N.NodeStore.state c.remove_key.new.store) (g.N.NodeStore.state c.remove_key-2.new.store)
    c.remove_key.ensures.same c.in_ok-remove_key.ensures.edits c.remove_key-2.ensures.takes
