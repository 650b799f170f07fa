use Rattle.std.proofs.Common.{arith}
use Rattle.btree_edit.proofs.Outcomes.{read_tree, read_pairs}
use Rattle.btree_edit.proofs.Walks.{located_seeks_ok}
use Rattle.btree_edit.proofs.walking.seek.Goals as goal

pub returns-clause-seeks : goal.returns-clause-seeks
returns-clause-seeks g c tells =
    let s = g.N.NodeStore.state c.args.store.now in
    let s1 = g.N.NodeStore.state c.locate.new.store in
    let t = c.requires.tree tells in
    located_seeks_ok g.K.KeyOrder.is_key g.K.KeyOrder.cmp g.met.K.KeyOrder.total g.met.K.KeyOrder.key_length s t s.shape.depth s1 c.locate.ensures.reads tells c.args.key.now c.locate.new.desk (read_pairs g.met.K.KeyOrder.key_length s.shape.depth s s1 c.locate.ensures.reads tells (omega (arith, (g.met.N.NodeStore.well_formed c.args.store.now).total)) t)
    c.locate.result (c.locate.ensures.at tells)

pub returns-clause-pairs : goal.returns-clause-pairs
returns-clause-pairs g c tells =
    let s = g.N.NodeStore.state c.args.store.now in
    read_pairs g.met.K.KeyOrder.key_length s.shape.depth s (g.N.NodeStore.state c.locate.new.store) c.locate.ensures.reads tells (omega (arith, (g.met.N.NodeStore.well_formed c.args.store.now).total)) (c.requires.tree tells)

pub returns-clause-tree : goal.returns-clause-tree
returns-clause-tree g c tells =
    let s = g.N.NodeStore.state c.args.store.now in
    read_tree g.met.K.KeyOrder.key_length s.shape.depth s (g.N.NodeStore.state c.locate.new.store) c.locate.ensures.reads tells (omega (arith, (g.met.N.NodeStore.well_formed c.args.store.now).total)) (c.requires.tree tells)
