use Rattle.std.proofs.Common.{◌≤◌, ◌+◌, ◌∷◌, [], length, get_or, ◌∙◌, ap, arith}
use Rattle.btree_edit.specs.Halves.{record_of}
use Rattle.btree_edit.specs.LevelEdit.{taken, node_room}
use Rattle.btree_edit.proofs.Fitting.{size_least, taken_one}
use Rattle.btree_edit.proofs.Settling.{takes_node, rises_planted}
use Rattle.btree_edit.proofs.roots.first_leaf.Goals as goal

pub returns-clause-plants : goal.returns-clause-plants
returns-clause-plants g c = λ tells bare is_record.
    let s = g.N.NodeStore.state c.args.store.now in
    let m = g.N.NodeStore.state c.take_node.new.self in
    let t = g.N.NodeStore.state c.save.new.self in
    let took = c.in_ok-fresh.ensures in
    let takes = takes_node s m t c.in_ok-fresh.fresh c.make_node.new.node c.requires.free took.inside (took.was_free tells) (took.of_tree tells) (took.tree tells) took.shape c.take_node.ensures.same
    (c.save.ensures.tree (c.take_node.ensures.same.tells ∙ tells) (c.take_node.ensures.same.reserved c.in_ok-fresh.fresh ∙ took.of_tree tells)) c.save.ensures.shape c.save.ensures.same in
    let large : 512 ≤ s.shape.node_size = omega (arith, size_least (length c.args.desk.now.node) c.bytes-size.ensures.size, c.requires.desk.node) in
    let fits : taken (record_of c.args.desk.now.first ∷ []) ≤ node_room (length c.args.desk.now.node) =
    omega (
      arith,
      taken_one (length (record_of c.args.desk.now.first) + 2) (record_of c.args.desk.now.first ∷ []) (omega arith) (λ k inside. omega (arith, ap (λ i. length (get_or (record_of c.args.desk.now.first ∷ []) i [])) {x = k} {y = 0} (omega arith))),
      is_record.short,
      c.requires.desk.node,
    ) in
    rises_planted g.K.KeyOrder.MAX g.met.K.KeyOrder.key_length g.met.K.KeyOrder.key_most s t c.args.shape.now c.make_node.new.node (record_of c.args.desk.now.first) bare is_record c.in_ok-fresh.fresh takes
    c.make_node.ensures.is_node (c.make_node.ensures.size ∙ c.requires.desk.node) c.make_node.ensures.next c.make_node.ensures.back (c.make_node.ensures.items fits)
