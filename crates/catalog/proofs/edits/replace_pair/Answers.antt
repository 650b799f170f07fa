use Rattle.std.proofs.Common.{◌≡◌, ◌≤◌, ◌+◌, inr, arith}
use Rattle.btree_edit.proofs.EditLaws.{room_for_one, takes_one}
use Rattle.catalog.proofs.SingleEdits.{one_edit}
use Rattle.catalog.proofs.edits.replace_pair.Goals as goal

pub replace-requires-clause-depth : goal.replace-requires-clause-depth
replace-requires-clause-depth g c tells = inr (room_for_one 0 516 (g.N.NodeStore.state c.args.store.now) c.requires.room tells).depth

pub replace-requires-clause-free : goal.replace-requires-clause-free
replace-requires-clause-free g c tells = inr (room_for_one 0 516 (g.N.NodeStore.state c.args.store.now) c.requires.room tells).free

pub replace-requires-clause-room : goal.replace-requires-clause-room
replace-requires-clause-room g c tells = inr (room_for_one 0 516 (g.N.NodeStore.state c.args.store.now) c.requires.room tells).room

pub returns-clause-takes : goal.returns-clause-takes
returns-clause-takes g c = takes_one 516 (g.N.NodeStore.state c.args.store.now) (g.N.NodeStore.state c.replace.new.store) c.replace.ensures.does

pub returns-clause-edits : goal.returns-clause-edits
returns-clause-edits g c =
    let old = (g.N.NodeStore.state c.args.store.now).shape in
    let new = (g.N.NodeStore.state c.replace.new.store).shape in
    one_edit c.replace.result (new.leaf_records ≡ old.leaf_records) (g.N.NodeStore.state c.args.store.now) (g.N.NodeStore.state c.replace.new.store) (λ few. omega (arith, few))
    c.replace.ensures.does c.replace.ensures.depth c.replace.ensures.records c.replace.ensures.roots
