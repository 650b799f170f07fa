use Rattle.std.proofs.Common.{◌≤◌, length, sym, ◌∙◌, subst}
use Rattle.btree_edit.specs.Halves.{put_of}
use Rattle.btree_edit.specs.LevelEdit.{taken, node_room}
use Rattle.btree_edit.proofs.Settling.{takes_node, rises_raised, two_fit}
use Rattle.btree_edit.proofs.roots.add_root.Goals as goal

pub returns-clause-raises : goal.returns-clause-raises
returns-clause-raises g c = λ tells start records left budget climbs some wide.
    let s = g.N.NodeStore.state c.args.store.now in
    let m = g.N.NodeStore.state c.take_node.new.self in
    let t = g.N.NodeStore.state c.save.new.self in
    let took = c.in_ok-fresh.ensures in
    let takes = takes_node s m t c.in_ok-fresh.fresh c.make_node.new.node c.requires.free took.inside (took.was_free tells) (took.of_tree tells) (took.tree tells) took.shape c.take_node.ensures.same
    (c.save.ensures.tree (c.take_node.ensures.same.tells ∙ tells) (c.take_node.ensures.same.reserved c.in_ok-fresh.fresh ∙ took.of_tree tells)) c.save.ensures.shape c.save.ensures.same in
    let fits : taken (put_of 2 c.args.desk.now.first c.args.desk.now.second) ≤ node_room (length c.args.desk.now.node) =
    subst (λ n. taken (put_of 2 c.args.desk.now.first c.args.desk.now.second) ≤ node_room n) (sym c.requires.desk.node)
    (two_fit g.K.KeyOrder.MAX g.met.K.KeyOrder.key_length g.met.K.KeyOrder.key_most start s records c.args.shape.now left budget c.args.desk.now climbs some wide) in
    rises_raised g.K.KeyOrder.MAX g.met.K.KeyOrder.key_length g.met.K.KeyOrder.key_most start s t records c.args.shape.now left budget c.args.desk.now climbs some c.in_ok-fresh.fresh c.make_node.new.node takes
    c.make_node.ensures.is_node (c.make_node.ensures.size ∙ c.requires.desk.node) c.make_node.ensures.next c.make_node.ensures.back (c.make_node.ensures.items fits)
