use Rattle.std.proofs.Common.{sym, subst}
use Rattle.std.specs.Prelude.{IsTrue}
use Rattle.btree_node.specs.Keys.{catalog_cmp}
use Rattle.btree_node.specs.Tree.{pairs_of}
use Rattle.btree_edit.specs.Sorted.{InsertsPair}
use Rattle.btree_edit.proofs.EditLaws.{takes_fewer, edits_fewer, takes_both, edits_add, room_then, room_first}
use Rattle.catalog.proofs.Pairs.{not_beside, insert_is_done}
use Rattle.catalog.proofs.adding.insert_both.Goals as goal

pub insert_pair-requires-clause-room : goal.insert_pair-requires-clause-room
insert_pair-requires-clause-room g c = room_first 1 1 516 (g.N.NodeStore.state c.args.store.now) c.requires.room

pub returns-in_err-insert_pair-clause-takes : goal.returns-in_err-insert_pair-clause-takes
returns-in_err-insert_pair-clause-takes g c = takes_fewer 1 1 516 (g.N.NodeStore.state c.args.store.now) (g.N.NodeStore.state c.insert_pair.new.store) c.insert_pair.ensures.takes

pub insert_pair-requires-in-Done-clause-room : goal.insert_pair-requires-in-Done-clause-room
insert_pair-requires-in-Done-clause-room g c =
    room_then 1 1 516 (g.N.NodeStore.state c.args.store.now) (g.N.NodeStore.state c.insert_pair.new.store) c.insert_pair.ensures.same c.in_ok-insert_pair.ensures.edits c.requires.room

pub returns-in_err-insert_pair-in-Done-clause-takes : goal.returns-in_err-insert_pair-in-Done-clause-takes
returns-in_err-insert_pair-in-Done-clause-takes g c =
    takes_both 1 1 516 (g.N.NodeStore.state c.args.store.now) (g.N.NodeStore.state c.insert_pair.new.store) (g.N.NodeStore.state c.insert_pair-in-Done.new.store)
    c.insert_pair.ensures.same c.in_ok-insert_pair.ensures.edits c.insert_pair-in-Done.ensures.takes

pub returns-in-Exists-clause-edits : goal.returns-in-Exists-clause-edits
returns-in-Exists-clause-edits g c = edits_fewer 1 1 516 (g.N.NodeStore.state c.args.store.now) (g.N.NodeStore.state c.insert_pair.new.store) c.in_ok-insert_pair.ensures.edits

pub returns-in-Exists-clause-takes : goal.returns-in-Exists-clause-takes
returns-in-Exists-clause-takes g c = takes_fewer 1 1 516 (g.N.NodeStore.state c.args.store.now) (g.N.NodeStore.state c.insert_pair.new.store) c.insert_pair.ensures.takes

pub returns-in_ok-insert_pair-in-Done-clause-pairs : goal.returns-in_ok-insert_pair-in-Done-clause-pairs
returns-in_ok-insert_pair-in-Done-clause-pairs g c tells =
    let s = g.N.NodeStore.state c.args.store.now in
    let one = g.N.NodeStore.state c.insert_pair.new.store in
    let two = g.N.NodeStore.state c.insert_pair-in-Done.new.store in
    let adds = subst (λ answer. InsertsPair catalog_cmp c.args.entry.now.key c.args.entry.now.value (pairs_of s) (pairs_of one) answer) c.in-Done.is (c.in_ok-insert_pair.ensures.pairs tells) in
    let absent = not_beside catalog_cmp c.args.entry.now.key c.args.entry.now.value c.args.thread.now.key (pairs_of s) (pairs_of one) adds c.requires.apart (c.requires.unused tells) in
    let tells_one : IsTrue one.tells = subst IsTrue (sym c.insert_pair.ensures.same.tells) tells in
    record {
      between = pairs_of one;
      one = adds;
      both = insert_is_done catalog_cmp c.args.thread.now.key c.args.thread.now.value one (pairs_of two) c.in_ok-insert_pair-in-Done.field-0 absent (c.in_ok-insert_pair-in-Done.ensures.answer tells_one) (c.in_ok-insert_pair-in-Done.ensures.pairs tells_one);
    }

pub returns-in_ok-insert_pair-in-Done-clause-edits : goal.returns-in_ok-insert_pair-in-Done-clause-edits
returns-in_ok-insert_pair-in-Done-clause-edits g c =
    edits_add 1 1 516 (g.N.NodeStore.state c.args.store.now) (g.N.NodeStore.state c.insert_pair.new.store) (g.N.NodeStore.state c.insert_pair-in-Done.new.store)
    c.insert_pair.ensures.same c.in_ok-insert_pair.ensures.edits c.in_ok-insert_pair-in-Done.ensures.edits

pub returns-in_ok-insert_pair-in-Done-clause-takes : goal.returns-in_ok-insert_pair-in-Done-clause-takes
returns-in_ok-insert_pair-in-Done-clause-takes g c =
    takes_both 1 1 516 (g.N.NodeStore.state c.args.store.now) (g.N.NodeStore.state c.insert_pair.new.store) (g.N.NodeStore.state c.insert_pair-in-Done.new.store)
    c.insert_pair.ensures.same c.in_ok-insert_pair.ensures.edits c.insert_pair-in-Done.ensures.takes
