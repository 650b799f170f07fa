use Rattle.std.proofs.Common.{◌≡◌, ◌∙◌, List, ℕ, length, sym, ap, subst, arith, true, false}
use Rattle.std.proofs.lemmas.Bool.{true≢false}
use Rattle.btree_node.specs.Node.{IsNodeOf}
use Rattle.btree_node.specs.Tree.{kind_at}
use Rattle.btree_edit.specs.Desk.{Picks}
use Rattle.btree_edit.proofs.Fitting.{size_least}
use Rattle.btree_edit.proofs.finding.look_in.Goals as goal

pub pick_leaf-requires-clause-long : goal.pick_leaf-requires-clause-long
pick_leaf-requires-clause-long g c =
    let s = g.N.NodeStore.state c.args.store.now in
    omega (arith, size_least s.shape.node_size (g.met.N.NodeStore.well_formed c.args.store.now).node_size, c.in-Some.ensures.size)

pub returns-in-Some-clause-picks : goal.returns-in-Some-clause-picks
returns-in-Some-clause-picks g c = λ tells inside leaf.
    let value = c.in-Some.ensures.value tells in
    subst (λ (l : List ℕ). Picks g.K.KeyOrder.is_key g.K.KeyOrder.cmp c.args.key.now c.args.node l c.args.desk.now.held c.pick_leaf.new.held c.pick_leaf.result) value
    (c.pick_leaf.ensures.picks (subst (λ (l : List ℕ). IsNodeOf (kind_at 1) 1 l) (sym value) leaf))

pub returns-then-not-branch-clause-picks : goal.returns-then-not-branch-clause-picks
returns-then-not-branch-clause-picks g c = λ tells inside leaf. absurd (true≢false (sym (c.in_ok-read_node.ensures.sound tells inside leaf (omega arith)) ∙ c.if-not-branch.true))

pub returns-clause-picks : goal.returns-clause-picks
returns-clause-picks g c = λ tells inside leaf.
    let yes : c.in_ok-read_node.field-0 ≡ true = c.if-not-branch.false in
    subst (λ (l : List ℕ). Picks g.K.KeyOrder.is_key g.K.KeyOrder.cmp c.args.key.now c.args.node l c.args.desk.now.held c.pick.new.held c.pick.result) (c.bytes.ensures.value ∙ c.in_ok-read_node.ensures.value tells yes) c.pick.ensures.picks
