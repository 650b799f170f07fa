use Rattle.std.proofs.Common.{◌≡◌, ◌<◌, ◌-◌, ap, subst, ◌∙◌, arith, rules}
use Rattle.std.specs.Prelude.{IsSome}
use Rattle.btree_node.specs.Tree.{IsTreeNode}
use Rattle.btree_edit.specs.Reading.{LeadsTo, LeadsToLeaf}
use Rattle.btree_edit.proofs.Descent.{leads_node}
use Rattle.btree_edit.proofs.Repeated.{reads_both, still_node}
use Rattle.btree_edit.proofs.Picking.{finds, stands}
use Rattle.btree_edit.proofs.finding.look.Goals as goal

pub returns-clause-found : goal.returns-clause-found
returns-clause-found g c = λ tells.
    let s = g.N.NodeStore.state c.args.store.now in
    let now = g.N.NodeStore.state c.descend.new.store in
    let t = c.requires.tree tells in
    let some : 0 < s.shape.depth = (subst (λ o. IsSome o → 0 < s.shape.depth) c.in-Some.is c.in_ok-node.ensures.depth) (search rules) in
    let leads : LeadsTo g.K.KeyOrder.cmp c.args.key.now s (s.shape.depth - 1) c.in-Some.node = subst (λ o. LeadsToLeaf g.K.KeyOrder.cmp c.args.key.now s o) c.in-Some.is (c.in_ok-node.ensures.leaf tells) in
    let place : s.shape.depth - (s.shape.depth - 1) ≡ 1 = omega arith in
    let node : IsTreeNode s 1 c.in-Some.node = subst (λ h. IsTreeNode s h c.in-Some.node) place
    (leads_node g.K.KeyOrder.is_key g.K.KeyOrder.cmp g.met.K.KeyOrder.total g.met.K.KeyOrder.key_length s t.levels t.ordered c.args.key.now (s.shape.depth - 1) c.in-Some.node leads (omega arith)) in
    let still = still_node (s.shape.depth - 1) 1 c.in-Some.node c.descend.ensures.reads tells node in
    finds g.K.KeyOrder.is_key g.K.KeyOrder.cmp g.met.K.KeyOrder.total g.met.K.KeyOrder.key_length s t.levels t.ordered c.args.key.now c.in-Some.node some leads
    (now.nodes c.in-Some.node) c.descend.new.desk.held c.look_in.new.desk ((c.descend.ensures.reads.tree tells).nodes c.in-Some.node)
    (ap (λ h. h.key) c.descend.ensures.held ∙ c.forget.ensures.key) (ap (λ h. h.value) c.descend.ensures.held ∙ c.forget.ensures.value)
    c.in_ok-found.found (c.in_ok-found.ensures.picks still.0 still.1 still.2)

pub returns-clause-place : goal.returns-clause-place
returns-clause-place g c = λ tells.
    let s = g.N.NodeStore.state c.args.store.now in
    let now = g.N.NodeStore.state c.descend.new.store in
    let t = c.requires.tree tells in
    let some : 0 < s.shape.depth = (subst (λ o. IsSome o → 0 < s.shape.depth) c.in-Some.is c.in_ok-node.ensures.depth) (search rules) in
    let leads : LeadsTo g.K.KeyOrder.cmp c.args.key.now s (s.shape.depth - 1) c.in-Some.node = subst (λ o. LeadsToLeaf g.K.KeyOrder.cmp c.args.key.now s o) c.in-Some.is (c.in_ok-node.ensures.leaf tells) in
    let place : s.shape.depth - (s.shape.depth - 1) ≡ 1 = omega arith in
    let node : IsTreeNode s 1 c.in-Some.node = subst (λ h. IsTreeNode s h c.in-Some.node) place
    (leads_node g.K.KeyOrder.is_key g.K.KeyOrder.cmp g.met.K.KeyOrder.total g.met.K.KeyOrder.key_length s t.levels t.ordered c.args.key.now (s.shape.depth - 1) c.in-Some.node leads (omega arith)) in
    let still = still_node (s.shape.depth - 1) 1 c.in-Some.node c.descend.ensures.reads tells node in
    stands g.K.KeyOrder.is_key g.K.KeyOrder.cmp g.met.K.KeyOrder.total g.met.K.KeyOrder.key_length s t.levels t.ordered c.args.key.now c.in-Some.node some leads
    (now.nodes c.in-Some.node) c.descend.new.desk.held c.look_in.new.desk ((c.descend.ensures.reads.tree tells).nodes c.in-Some.node)
    (ap (λ h. h.key) c.descend.ensures.held ∙ c.forget.ensures.key) (ap (λ h. h.value) c.descend.ensures.held ∙ c.forget.ensures.value)
    c.in_ok-found.found (c.in_ok-found.ensures.picks still.0 still.1 still.2)

pub returns-in_err-found-clause-reads : goal.returns-in_err-found-clause-reads
returns-in_err-found-clause-reads g c =
    let s = g.N.NodeStore.state c.args.store.now in
    let some : 0 < s.shape.depth = (subst (λ o. IsSome o → 0 < s.shape.depth) c.in-Some.is c.in_ok-node.ensures.depth) (search rules) in
    reads_both (s.shape.depth - 1) 1 s.shape.depth c.descend.ensures.reads c.look_in.ensures.reads (omega (arith, some))

pub returns-clause-reads : goal.returns-clause-reads
returns-clause-reads g c =
    let s = g.N.NodeStore.state c.args.store.now in
    let some : 0 < s.shape.depth = (subst (λ o. IsSome o → 0 < s.shape.depth) c.in-Some.is c.in_ok-node.ensures.depth) (search rules) in
    reads_both (s.shape.depth - 1) 1 s.shape.depth c.descend.ensures.reads c.look_in.ensures.reads (omega (arith, some))
