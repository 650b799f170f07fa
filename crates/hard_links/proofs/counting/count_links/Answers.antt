use Rattle.btree_node.specs.Tree.{pairs_of}
use Rattle.hard_links.proofs.Counts.{same_kind, counts_of}
use Rattle.hard_links.proofs.counting.count_links.Goals as goal

pub update-requires-clause-same_kind : goal.update-requires-clause-same_kind
update-requires-clause-same_kind g c tells entry found =
    same_kind (pairs_of (g.N.NodeStore.state c.args.store.now)) c.args.private c.args.name.now c.args.links c.args.file.now c.with_special-rec.result entry c.with_special-rec.ensures.value (c.requires.stands tells) found

pub returns-clause-counts : goal.returns-clause-counts
returns-clause-counts g c tells =
    counts_of c.args.private c.args.name.now c.args.links c.args.file.now c.with_special-rec.result (pairs_of (g.N.NodeStore.state c.args.store.now)) (pairs_of (g.N.NodeStore.state c.update.new.store)) c.in_ok-update.field-0
    (c.requires.plain tells) c.with_special-rec.ensures.value (c.requires.stands tells) (c.in_ok-update.ensures.answer tells) (c.in_ok-update.ensures.updated tells)
