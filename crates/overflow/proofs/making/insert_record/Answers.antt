use Rattle.std.proofs.Common.{refl}
use Rattle.btree_node.specs.Tree.{pairs_of}
use Rattle.btree_edit.proofs.EditLaws.{room_for_one, takes_one, edits_one}
use Rattle.overflow.proofs.Editing.{inserted_records, inserted_others}
use Rattle.overflow.proofs.making.insert_record.Goals as goal

pub insert-requires-clause-records : goal.insert-requires-clause-records
insert-requires-clause-records g c tells = (room_for_one 0 10 (g.N.NodeStore.state c.args.store.now) c.requires.room tells).records

pub insert-requires-clause-depth : goal.insert-requires-clause-depth
insert-requires-clause-depth g c tells = (room_for_one 0 10 (g.N.NodeStore.state c.args.store.now) c.requires.room tells).depth

pub insert-requires-clause-free : goal.insert-requires-clause-free
insert-requires-clause-free g c tells = (room_for_one 0 10 (g.N.NodeStore.state c.args.store.now) c.requires.room tells).free

pub insert-requires-clause-room : goal.insert-requires-clause-room
insert-requires-clause-room g c tells = (room_for_one 0 10 (g.N.NodeStore.state c.args.store.now) c.requires.room tells).room

pub returns-clause-records : goal.returns-clause-records
returns-clause-records g c tells =
    let s = g.N.NodeStore.state c.args.store.now in
    inserted_records c.args.id c.args.fork c.args.one.start c.key_of-key.result c.key_of-key.ensures s (c.requires.tree tells) (pairs_of (g.N.NodeStore.state c.insert.new.store))
    c.args.one c.value_of-value.result (record { start_is = refl; extents = c.value_of-value.ensures.back }) c.in_ok-insert.field-0 (c.requires.fits tells) (c.in_ok-insert.ensures.answer tells) (c.in_ok-insert.ensures.pairs tells)

pub returns-clause-others : goal.returns-clause-others
returns-clause-others g c tells =
    let s = g.N.NodeStore.state c.args.store.now in
    inserted_others c.args.id c.args.fork c.args.one.start c.key_of-key.result c.key_of-key.ensures s (c.requires.tree tells) (pairs_of (g.N.NodeStore.state c.insert.new.store)) c.value_of-value.result c.in_ok-insert.field-0
    (c.in_ok-insert.ensures.pairs tells)

pub returns-clause-edits : goal.returns-clause-edits
returns-clause-edits g c =
    edits_one 10 (g.N.NodeStore.state c.args.store.now) (g.N.NodeStore.state c.insert.new.store) c.insert.ensures.does c.in_ok-insert.ensures.depth c.in_ok-insert.ensures.records c.in_ok-insert.ensures.roots

pub returns-clause-takes : goal.returns-clause-takes
returns-clause-takes g c = takes_one 10 (g.N.NodeStore.state c.args.store.now) (g.N.NodeStore.state c.insert.new.store) c.insert.ensures.does
