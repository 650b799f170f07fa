use Rattle.std.proofs.Common.{◌∙◌, ap}
use Rattle.btree_node.specs.declared.store.TreeShape.{TreeShape}
use Rattle.btree_edit.proofs.Settling.{settled, settled_root, settled_thick}
use Rattle.btree_edit.proofs.roots.write_tree_header.Goals as goal

pub returns-clause-settles : goal.returns-clause-settles
returns-clause-settles g c = λ tells start records small low many rises.
    let s = g.N.NodeStore.state c.args.store.now in
    settled g.K.KeyOrder.MAX g.met.K.KeyOrder.key_length g.met.K.KeyOrder.key_most start s (g.N.NodeStore.state c.reshape.new.self) records c.args.shape.now rises small low many
    (c.reshape.ensures.shape
    ∙ ap (λ (h : TreeShape). record { node_size = h.node_size; depth = c.args.shape.now.depth; root = c.args.shape.now.root; first = c.args.shape.now.first; last = c.args.shape.now.last; leaf_records = c.args.shape.now.leaf_records; total = h.total; free = h.free }) c.shape-now.ensures)
    (c.reshape.ensures.tree tells) c.reshape.ensures.same

pub returns-clause-roots : goal.returns-clause-roots
returns-clause-roots g c = λ tells start records rises.
    settled_root g.K.KeyOrder.MAX g.met.K.KeyOrder.key_length g.met.K.KeyOrder.key_most start (g.N.NodeStore.state c.args.store.now) (g.N.NodeStore.state c.reshape.new.self) records c.args.shape.now rises
    (c.reshape.ensures.shape
    ∙ ap (λ (h : TreeShape). record { node_size = h.node_size; depth = c.args.shape.now.depth; root = c.args.shape.now.root; first = c.args.shape.now.first; last = c.args.shape.now.last; leaf_records = c.args.shape.now.leaf_records; total = h.total; free = h.free }) c.shape-now.ensures)
    (c.reshape.ensures.tree tells)

pub returns-clause-thick : goal.returns-clause-thick
returns-clause-thick g c = λ tells start records rises thick.
    settled_thick g.K.KeyOrder.MAX g.met.K.KeyOrder.key_length g.met.K.KeyOrder.key_most (g.N.NodeStore.state c.args.store.now) (g.N.NodeStore.state c.reshape.new.self) start records c.args.shape.now rises
    (c.reshape.ensures.shape
    ∙ ap (λ (h : TreeShape). record { node_size = h.node_size; depth = c.args.shape.now.depth; root = c.args.shape.now.root; first = c.args.shape.now.first; last = c.args.shape.now.last; leaf_records = c.args.shape.now.leaf_records; total = h.total; free = h.free }) c.shape-now.ensures)
    (c.reshape.ensures.tree tells) thick
