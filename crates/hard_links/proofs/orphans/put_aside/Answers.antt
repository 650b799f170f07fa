use Rattle.btree_node.specs.Tree.{pairs_of}
use Rattle.hard_links.proofs.Asides.{relocated}
use Rattle.hard_links.proofs.orphans.put_aside.Goals as goal

pub returns-clause-moved : goal.returns-clause-moved
returns-clause-moved g c tells =
    relocated c.args.at.now.parent c.args.at.now.name c.args.private c.args.name.now (pairs_of (g.N.NodeStore.state c.args.store.now)) (pairs_of (g.N.NodeStore.state c.move_entry.new.store)) c.in_ok-move_entry.field-0
    (c.requires.file tells).entry (c.requires.file tells).found (c.requires.vacant tells) (c.in_ok-move_entry.ensures.answer tells) (c.in_ok-move_entry.ensures.moved tells)
