use Rattle.std.proofs.Common.{◌≡◌, List, ℕ, sym, ◌∙◌, subst}
use Rattle.std.proofs.lemmas.Result.{IfOk-weaker}
use Rattle.btree_node.specs.Codec.{IsPacked, node_over}
use Rattle.btree_node.proofs.Printing.{node_over_is, node_over_same}
use Rattle.btree_node.proofs.codec.node_over.Goals as goal

pub returns-clause-node : goal.returns-clause-node
returns-clause-node c =
    IfOk-weaker c.node_text.result (λ bytes. bytes.items ≡ node_over c.args.size c.args.head.now c.args.records.now c.args.old.now) (λ bytes. IsPacked c.args.size bytes.items c.args.head.now c.args.records.now)
    (λ bytes is. subst (λ (l : List ℕ). IsPacked c.args.size l c.args.head.now c.args.records.now) (sym is) (node_over_is c.args.size c.args.head.now c.args.records.now c.args.old.now c.requires.long c.requires.room))
    c.node_text.ensures

pub returns-clause-same : goal.returns-clause-same
returns-clause-same c node =
    IfOk-weaker c.node_text.result (λ bytes. bytes.items ≡ node_over c.args.size c.args.head.now c.args.records.now c.args.old.now) (λ bytes. bytes.items ≡ c.args.old.now)
    (λ bytes is. is ∙ node_over_same c.args.size c.args.head.now c.args.records.now c.args.old.now node)
    c.node_text.ensures
