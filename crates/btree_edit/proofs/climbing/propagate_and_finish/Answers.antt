use Rattle.std.proofs.Common.{◌≤◌, ◌+◌, ◌*◌, ◌∙◌, sym, subst, arith}
use Rattle.btree_edit.specs.LevelEdit.{records_on, node_room}
use Rattle.btree_edit.specs.Rising.{leaves_edited}
use Rattle.btree_edit.proofs.climbing.propagate_and_finish.Goals as goal

pub returns-clause-rises : goal.returns-clause-rises
returns-clause-rises g c = λ tells shape_is can.
    let a = g.N.NodeStore.state c.args.store.now in
    let same = c.propagate.ensures.does.same in
    c.finish_at_root.ensures.crowns (same.tells ∙ tells) a (leaves_edited a c.args.desk.now.path c.args.at c.args.removed (records_on c.args.count c.args.desk.now))
    (omega (arith, can.small, same.total)) can.some (subst (λ n. 3 * (g.K.KeyOrder.MAX + 8) ≤ node_room n) (sym same.node_size) can.wide) (c.in_ok-end.ensures.climbs tells shape_is can)

pub returns-clause-thick : goal.returns-clause-thick
returns-clause-thick g c = λ tells shape_is can.
    let a = g.N.NodeStore.state c.args.store.now in
    let same = c.propagate.ensures.does.same in
    c.finish_at_root.ensures.thick (same.tells ∙ tells) a (leaves_edited a c.args.desk.now.path c.args.at c.args.removed (records_on c.args.count c.args.desk.now))
    (omega (arith, can.small, same.total)) can.some (subst (λ n. 3 * (g.K.KeyOrder.MAX + 8) ≤ node_room n) (sym same.node_size) can.wide) (c.in_ok-end.ensures.climbs tells shape_is can)
