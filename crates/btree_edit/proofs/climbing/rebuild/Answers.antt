use Rattle.std.proofs.Common.{◌∙◌, inl, inr, arith}
use Rattle.btree_edit.specs.LevelEdit.{records_on}
use Rattle.btree_edit.specs.Rising.{leaves_edited}
use Rattle.btree_edit.proofs.Settling.{with_records}
use Rattle.btree_edit.proofs.climbing.rebuild.Goals as goal

pub returns-clause-tree : goal.returns-clause-tree
returns-clause-tree g c = λ tells shape_is can many low.
    let a = g.N.NodeStore.state c.args.store.now in
    let same = c.propagate_and_finish.ensures.does.same in
    let records = leaves_edited a c.args.desk.now.path c.args.at c.args.removed (records_on c.args.count c.args.desk.now) in
    c.write_tree_header.ensures.settles (same.tells ∙ tells) a (leaves_edited a c.args.desk.now.path c.args.at c.args.removed (records_on c.args.count c.args.desk.now))
    (omega (arith, can.small, same.total))
    (elim low [ inl none ↦ omega (arith, c.propagate_and_finish.ensures.kept none, c.requires.depth) | inr less ↦ omega (arith, c.propagate_and_finish.ensures.depth) ])
    many
    (with_records g.K.KeyOrder.MAX g.met.K.KeyOrder.key_length g.met.K.KeyOrder.key_most a (g.N.NodeStore.state c.propagate_and_finish.new.store) (leaves_edited a c.args.desk.now.path c.args.at c.args.removed (records_on c.args.count c.args.desk.now)) c.propagate_and_finish.new.shape c.args.records
    (c.in_ok-propagate_and_finish.ensures.rises tells shape_is can))

pub returns-clause-roots : goal.returns-clause-roots
returns-clause-roots g c = λ tells shape_is can.
    let a = g.N.NodeStore.state c.args.store.now in
    c.write_tree_header.ensures.roots (c.propagate_and_finish.ensures.does.same.tells ∙ tells) a (leaves_edited a c.args.desk.now.path c.args.at c.args.removed (records_on c.args.count c.args.desk.now))
    (with_records g.K.KeyOrder.MAX g.met.K.KeyOrder.key_length g.met.K.KeyOrder.key_most a (g.N.NodeStore.state c.propagate_and_finish.new.store) (leaves_edited a c.args.desk.now.path c.args.at c.args.removed (records_on c.args.count c.args.desk.now)) c.propagate_and_finish.new.shape c.args.records
    (c.in_ok-propagate_and_finish.ensures.rises tells shape_is can))

pub returns-clause-thick : goal.returns-clause-thick
returns-clause-thick g c = λ tells shape_is can.
    let a = g.N.NodeStore.state c.args.store.now in
    c.write_tree_header.ensures.thick (c.propagate_and_finish.ensures.does.same.tells ∙ tells) a (leaves_edited a c.args.desk.now.path c.args.at c.args.removed (records_on c.args.count c.args.desk.now))
    (with_records g.K.KeyOrder.MAX g.met.K.KeyOrder.key_length g.met.K.KeyOrder.key_most a (g.N.NodeStore.state c.propagate_and_finish.new.store) (leaves_edited a c.args.desk.now.path c.args.at c.args.removed (records_on c.args.count c.args.desk.now)) c.propagate_and_finish.new.shape c.args.records
    (c.in_ok-propagate_and_finish.ensures.rises tells shape_is can))
    (c.in_ok-propagate_and_finish.ensures.thick tells shape_is can)
