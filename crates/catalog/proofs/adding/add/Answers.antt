use Rattle.std.proofs.Common.{[]}
use Rattle.btree_node.specs.Tree.{pairs_of}
use Rattle.hfs_volume.specs.Records.{id_in}
use Rattle.catalog.proofs.EntryEdits.{add_answer, adding_of}
use Rattle.catalog.proofs.Places.{no_record_no_key}
use Rattle.catalog.proofs.adding.add.Goals as goal

pub insert_both-requires-clause-unused : goal.insert_both-requires-clause-unused
insert_both-requires-clause-unused g c tells =
    no_record_no_key (id_in c.args.rec.now) [] c.in_ok-thread.thread.key (pairs_of (g.N.NodeStore.state c.args.store.now)) c.in_ok-thread.ensures.key (c.requires.unused tells)

pub returns-clause-answer : goal.returns-clause-answer
returns-clause-answer g c tells =
    add_answer c.args.parent c.args.name.now c.in_ok-entry.entry.key (g.N.NodeStore.state c.args.store.now) c.in_ok-answer.answer c.in_ok-entry.ensures.key (c.in_ok-answer.ensures.answer tells)

pub returns-clause-added : goal.returns-clause-added
returns-clause-added g c tells =
    adding_of (record { parent = c.args.parent; name = c.args.name.now; value = c.args.rec.now }) c.in_ok-entry.entry c.in_ok-thread.thread
    (pairs_of (g.N.NodeStore.state c.args.store.now)) (pairs_of (g.N.NodeStore.state c.insert_both.new.store)) c.in_ok-answer.answer
    c.in_ok-entry.ensures.spells c.in_ok-thread.ensures.spells (c.in_ok-answer.ensures.pairs tells)
