use Rattle.std.proofs.Common.{◌≡◌, ◌<◌, ◌-◌, ap, sym, subst, ◌∙◌, arith, rules, true, false, List, ℕ}
use Rattle.std.proofs.lemmas.Bool.{true≢false}
use Rattle.std.specs.Prelude.{IsSome, IsTrue}
use Rattle.btree_node.specs.Tree.{IsTreeNode}
use Rattle.btree_edit.specs.Desk.{HoldsLeaf}
use Rattle.btree_edit.specs.Reading.{LeadsTo, LeadsToLeaf}
use Rattle.btree_edit.proofs.Descent.{leads_node}
use Rattle.btree_edit.proofs.Repeated.{reads_both, still_node}
use Rattle.btree_edit.proofs.Picking.{finds, keeps_leaf, stands}
use Rattle.btree_edit.proofs.finding.find.Goals as goal

pub returns-then-not-branch-clause-found : goal.returns-then-not-branch-clause-found
returns-then-not-branch-clause-found g c = λ tells.
    let s = g.N.NodeStore.state c.args.store.now in
    let t = c.requires.tree tells in
    let some : 0 < s.shape.depth = (subst (λ o. IsSome o → 0 < s.shape.depth) c.in-Some.is c.in_ok-node.ensures.depth) (search rules) in
    let leads : LeadsTo g.K.KeyOrder.cmp c.args.key.now s (s.shape.depth - 1) c.in-Some.node = subst (λ o. LeadsToLeaf g.K.KeyOrder.cmp c.args.key.now s o) c.in-Some.is (c.in_ok-node.ensures.leaf tells) in
    let place : s.shape.depth - (s.shape.depth - 1) ≡ 1 = omega arith in
    let node : IsTreeNode s 1 c.in-Some.node = subst (λ h. IsTreeNode s h c.in-Some.node) place
    (leads_node g.K.KeyOrder.is_key g.K.KeyOrder.cmp g.met.K.KeyOrder.total g.met.K.KeyOrder.key_length s t.levels t.ordered c.args.key.now (s.shape.depth - 1) c.in-Some.node leads (omega arith)) in
    let still = still_node (s.shape.depth - 1) 1 c.in-Some.node c.descend.ensures.reads tells node in
    let yes : c.in_ok-read_node.field-0 ≡ true = c.in_ok-read_node.ensures.sound still.0 still.1 still.2 (omega arith) in
    let clash : true ≡ false = sym yes ∙ c.if-not-branch.true in
    absurd (true≢false clash)

pub returns-clause-found : goal.returns-clause-found
returns-clause-found g c = λ tells.
    let s = g.N.NodeStore.state c.args.store.now in
    let t = c.requires.tree tells in
    let some : 0 < s.shape.depth = (subst (λ o. IsSome o → 0 < s.shape.depth) c.in-Some.is c.in_ok-node.ensures.depth) (search rules) in
    let leads : LeadsTo g.K.KeyOrder.cmp c.args.key.now s (s.shape.depth - 1) c.in-Some.node = subst (λ o. LeadsToLeaf g.K.KeyOrder.cmp c.args.key.now s o) c.in-Some.is (c.in_ok-node.ensures.leaf tells) in
    let yes : c.in_ok-read_node.field-0 ≡ true = c.if-not-branch.false in
    let into : c.read_node.new.into ≡ s.nodes c.in-Some.node = c.in_ok-read_node.ensures.value (c.descend.ensures.reads.same.tells ∙ tells) yes ∙ (c.descend.ensures.reads.tree tells).nodes c.in-Some.node in
    finds g.K.KeyOrder.is_key g.K.KeyOrder.cmp g.met.K.KeyOrder.total g.met.K.KeyOrder.key_length s t.levels t.ordered c.args.key.now c.in-Some.node some leads
    c.bytes.result.now c.descend.new.desk.held
    (record { node = c.read_node.new.into; other = c.descend.new.desk.other; held = c.pick.new.held; first = c.descend.new.desk.first; second = c.descend.new.desk.second; path = c.descend.new.desk.path }) (c.bytes.ensures.value ∙ into)
    (ap (λ h. h.key) c.descend.ensures.held ∙ c.forget.ensures.key) (ap (λ h. h.value) c.descend.ensures.held ∙ c.forget.ensures.value)
    c.pick.result c.pick.ensures.picks

pub returns-clause-place : goal.returns-clause-place
returns-clause-place g c = λ tells.
    let s = g.N.NodeStore.state c.args.store.now in
    let t = c.requires.tree tells in
    let some : 0 < s.shape.depth = (subst (λ o. IsSome o → 0 < s.shape.depth) c.in-Some.is c.in_ok-node.ensures.depth) (search rules) in
    let leads : LeadsTo g.K.KeyOrder.cmp c.args.key.now s (s.shape.depth - 1) c.in-Some.node = subst (λ o. LeadsToLeaf g.K.KeyOrder.cmp c.args.key.now s o) c.in-Some.is (c.in_ok-node.ensures.leaf tells) in
    let yes : c.in_ok-read_node.field-0 ≡ true = c.if-not-branch.false in
    let into : c.read_node.new.into ≡ s.nodes c.in-Some.node = c.in_ok-read_node.ensures.value (c.descend.ensures.reads.same.tells ∙ tells) yes ∙ (c.descend.ensures.reads.tree tells).nodes c.in-Some.node in
    stands g.K.KeyOrder.is_key g.K.KeyOrder.cmp g.met.K.KeyOrder.total g.met.K.KeyOrder.key_length s t.levels t.ordered c.args.key.now c.in-Some.node some leads
    c.bytes.result.now c.descend.new.desk.held
    (record { node = c.read_node.new.into; other = c.descend.new.desk.other; held = c.pick.new.held; first = c.descend.new.desk.first; second = c.descend.new.desk.second; path = c.descend.new.desk.path }) (c.bytes.ensures.value ∙ into)
    (ap (λ h. h.key) c.descend.ensures.held ∙ c.forget.ensures.key) (ap (λ h. h.value) c.descend.ensures.held ∙ c.forget.ensures.value)
    c.pick.result c.pick.ensures.picks

pub returns-clause-leaf : goal.returns-clause-leaf
returns-clause-leaf g c =
    let s = g.N.NodeStore.state c.descend.new.store in
    let t = g.N.NodeStore.state c.read_node.new.store in
    let yes : c.in_ok-read_node.field-0 ≡ true = c.if-not-branch.false in
    let reads = c.read_node.ensures.reads in
    keeps_leaf g.K.KeyOrder.is_key g.K.KeyOrder.cmp c.args.key.now t c.in-Some.node c.bytes.result.now c.descend.new.desk.held
    (record { node = c.read_node.new.into; other = c.descend.new.desk.other; held = c.pick.new.held; first = c.descend.new.desk.first; second = c.descend.new.desk.second; path = c.descend.new.desk.path })
    (sym c.bytes.ensures.value)
    (subst (λ (l : List ℕ). HoldsLeaf t l c.in-Some.node) (sym c.bytes.ensures.value) (record {
      inside = omega (arith, c.in_ok-read_node.ensures.inside yes, reads.same.total);
      well_formed = (c.in_ok-read_node.ensures.is_node yes).well_formed;
      value = λ tells_now.
          let tells : IsTrue s.tells = sym reads.same.tells ∙ tells_now in
          c.in_ok-read_node.ensures.value tells yes ∙ sym ((reads.tree tells).nodes c.in-Some.node);
    }))
    c.pick.result c.pick.ensures.picks

pub returns-in_err-read_node-clause-reads : goal.returns-in_err-read_node-clause-reads
returns-in_err-read_node-clause-reads g c =
    let s = g.N.NodeStore.state c.args.store.now in
    let some : 0 < s.shape.depth = (subst (λ o. IsSome o → 0 < s.shape.depth) c.in-Some.is c.in_ok-node.ensures.depth) (search rules) in
    reads_both (s.shape.depth - 1) 1 s.shape.depth c.descend.ensures.reads c.read_node.ensures.reads (omega (arith, some))

pub returns-then-not-branch-clause-reads : goal.returns-then-not-branch-clause-reads
returns-then-not-branch-clause-reads g c =
    let s = g.N.NodeStore.state c.args.store.now in
    let some : 0 < s.shape.depth = (subst (λ o. IsSome o → 0 < s.shape.depth) c.in-Some.is c.in_ok-node.ensures.depth) (search rules) in
    reads_both (s.shape.depth - 1) 1 s.shape.depth c.descend.ensures.reads c.read_node.ensures.reads (omega (arith, some))

pub returns-clause-reads : goal.returns-clause-reads
returns-clause-reads g c =
    let s = g.N.NodeStore.state c.args.store.now in
    let some : 0 < s.shape.depth = (subst (λ o. IsSome o → 0 < s.shape.depth) c.in-Some.is c.in_ok-node.ensures.depth) (search rules) in
    reads_both (s.shape.depth - 1) 1 s.shape.depth c.descend.ensures.reads c.read_node.ensures.reads (omega (arith, some))
