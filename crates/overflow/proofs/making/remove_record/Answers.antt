use Rattle.std.proofs.Common.{arith}
use Rattle.btree_node.specs.Tree.{pairs_of}
use Rattle.btree_edit.proofs.EditLaws.{takes_one, edits_one}
use Rattle.overflow.proofs.Editing.{removed_records, removed_others}
use Rattle.overflow.proofs.making.remove_record.Goals as goal

pub returns-clause-records : goal.returns-clause-records
returns-clause-records g c tells =
    let s = g.N.NodeStore.state c.args.store.now in
    removed_records c.args.id c.args.fork c.args.start c.key_of-key.result c.key_of-key.ensures s (c.requires.tree tells) (pairs_of (g.N.NodeStore.state c.remove.new.store)) c.in_ok-remove.field-0
    (c.in_ok-remove.ensures.answer tells) (c.in_ok-remove.ensures.pairs tells)

pub returns-clause-others : goal.returns-clause-others
returns-clause-others g c tells =
    let s = g.N.NodeStore.state c.args.store.now in
    removed_others c.args.id c.args.fork c.args.start c.key_of-key.result c.key_of-key.ensures s (c.requires.tree tells) (pairs_of (g.N.NodeStore.state c.remove.new.store)) c.in_ok-remove.field-0 (c.in_ok-remove.ensures.pairs tells)

pub returns-clause-edits : goal.returns-clause-edits
returns-clause-edits g c =
    edits_one 10 (g.N.NodeStore.state c.args.store.now) (g.N.NodeStore.state c.remove.new.store) c.remove.ensures.does c.in_ok-remove.ensures.depth (omega (arith, c.in_ok-remove.ensures.records)) c.in_ok-remove.ensures.roots

pub returns-clause-takes : goal.returns-clause-takes
returns-clause-takes g c = takes_one 10 (g.N.NodeStore.state c.args.store.now) (g.N.NodeStore.state c.remove.new.store) c.remove.ensures.does
