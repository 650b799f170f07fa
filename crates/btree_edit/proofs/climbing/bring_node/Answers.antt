use Rattle.std.proofs.Common.{sym, subst, arith}
use Rattle.btree_node.specs.Node.{IsNodeOf}
use Rattle.btree_node.specs.Tree.{kind_at}
use Rattle.btree_edit.proofs.Repeated.{reads_none, reads_both}
use Rattle.btree_edit.proofs.climbing.bring_node.Goals as goal

pub returns-then-height-eq1-clause-inside : goal.returns-then-height-eq1-clause-inside
returns-then-height-eq1-clause-inside g c = λ yes. (c.requires.leaf c.if-height-eq1.true).inside

pub returns-then-height-eq1-clause-is_node : goal.returns-then-height-eq1-clause-is_node
returns-then-height-eq1-clause-is_node g c = λ yes. subst (λ h. IsNodeOf (kind_at h) h c.args.into.now) (sym c.if-height-eq1.true) (c.requires.is_leaf c.if-height-eq1.true)

pub returns-then-height-eq1-clause-value : goal.returns-then-height-eq1-clause-value
returns-then-height-eq1-clause-value g c = λ tells yes. (c.requires.leaf c.if-height-eq1.true).value tells

pub returns-then-height-eq1-clause-reads : goal.returns-then-height-eq1-clause-reads
returns-then-height-eq1-clause-reads g c =
    let s = g.N.NodeStore.state c.args.store.now in
    reads_both 0 0 1 (reads_none s) (reads_none s) (omega arith)
