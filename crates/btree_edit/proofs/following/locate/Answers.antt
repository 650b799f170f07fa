use Rattle.std.proofs.Common.{◌≡◌, ◌<◌, ◌-◌, sym, subst, ◌∙◌, arith, rules, true, false, List, ℕ}
use Rattle.std.proofs.lemmas.Bool.{true≢false}
use Rattle.std.specs.Prelude.{IsSome, IfSome, IfNone}
use Rattle.btree_node.specs.Tree.{IsTreeNode}
use Rattle.btree_node.specs.Node.{items}
use Rattle.btree_edit.specs.Reading.{LeadsTo, LeadsToLeaf, IsPlace, HasNoKey}
use Rattle.btree_edit.proofs.Descent.{leads_node}
use Rattle.btree_edit.proofs.Repeated.{reads_both, still_node}
use Rattle.btree_edit.proofs.Behind.{located}
use Rattle.btree_edit.proofs.following.locate.Goals as goal

pub returns-then-not-branch-clause-at : goal.returns-then-not-branch-clause-at
returns-then-not-branch-clause-at g c = λ tells.
    let s = g.N.NodeStore.state c.args.store.now in
    let t = c.requires.tree tells in
    let some : 0 < s.shape.depth = (subst (λ o. IsSome o → 0 < s.shape.depth) c.in-Some.is c.in_ok-node.ensures.depth) (search rules) in
    let leads : LeadsTo g.K.KeyOrder.cmp c.args.key.now s (s.shape.depth - 1) c.in-Some.node = subst (λ o. LeadsToLeaf g.K.KeyOrder.cmp c.args.key.now s o) c.in-Some.is (c.in_ok-node.ensures.leaf tells) in
    let place : s.shape.depth - (s.shape.depth - 1) ≡ 1 = omega arith in
    let node : IsTreeNode s 1 c.in-Some.node = subst (λ h. IsTreeNode s h c.in-Some.node) place
    (leads_node g.K.KeyOrder.is_key g.K.KeyOrder.cmp g.met.K.KeyOrder.total g.met.K.KeyOrder.key_length s t.levels t.ordered c.args.key.now (s.shape.depth - 1) c.in-Some.node leads (omega arith)) in
    let still = still_node (s.shape.depth - 1) 1 c.in-Some.node c.descend.ensures.reads tells node in
    let yes : c.in_ok-read_node.field-0 ≡ true = c.in_ok-read_node.ensures.sound still.0 still.1 still.2 (omega arith) in
    let clash : true ≡ false = sym yes ∙ c.if-not-branch.true in
    absurd (true≢false clash)

pub returns-clause-at : goal.returns-clause-at
returns-clause-at g c = λ tells.
    let s = g.N.NodeStore.state c.args.store.now in
    let t = c.requires.tree tells in
    let some : 0 < s.shape.depth = (subst (λ o. IsSome o → 0 < s.shape.depth) c.in-Some.is c.in_ok-node.ensures.depth) (search rules) in
    let leads : LeadsTo g.K.KeyOrder.cmp c.args.key.now s (s.shape.depth - 1) c.in-Some.node = subst (λ o. LeadsToLeaf g.K.KeyOrder.cmp c.args.key.now s o) c.in-Some.is (c.in_ok-node.ensures.leaf tells) in
    let yes : c.in_ok-read_node.field-0 ≡ true = c.if-not-branch.false in
    let into : c.read_node.new.into ≡ s.nodes c.in-Some.node = c.in_ok-read_node.ensures.value (c.descend.ensures.reads.same.tells ∙ tells) yes ∙ (c.descend.ensures.reads.tree tells).nodes c.in-Some.node in
    located g.K.KeyOrder.is_key g.K.KeyOrder.cmp g.met.K.KeyOrder.total g.met.K.KeyOrder.key_length s t c.args.key.now c.in-Some.node some leads
    (record { node = c.read_node.new.into; other = c.descend.new.desk.other; held = c.descend.new.desk.held; first = c.descend.new.desk.first; second = c.descend.new.desk.second; path = c.descend.new.desk.path }) into
    c.place.result (subst (λ (l : List ℕ). IfSome c.place.result (λ at. IsPlace g.K.KeyOrder.cmp c.args.key.now (items l) at)) c.bytes.ensures.value c.place.ensures.place)
    (subst (λ (l : List ℕ). IfNone c.place.result (HasNoKey g.K.KeyOrder.is_key (items l))) c.bytes.ensures.value c.place.ensures.no_key)

pub returns-in_err-read_node-clause-reads : goal.returns-in_err-read_node-clause-reads
returns-in_err-read_node-clause-reads g c =
    let s = g.N.NodeStore.state c.args.store.now in
    let some : 0 < s.shape.depth = (subst (λ o. IsSome o → 0 < s.shape.depth) c.in-Some.is c.in_ok-node.ensures.depth) (search rules) in
    reads_both (s.shape.depth - 1) 1 s.shape.depth c.descend.ensures.reads c.read_node.ensures.reads (omega (arith, some))

pub returns-then-not-branch-clause-reads : goal.returns-then-not-branch-clause-reads
returns-then-not-branch-clause-reads g c =
    let s = g.N.NodeStore.state c.args.store.now in
    let some : 0 < s.shape.depth = (subst (λ o. IsSome o → 0 < s.shape.depth) c.in-Some.is c.in_ok-node.ensures.depth) (search rules) in
    reads_both (s.shape.depth - 1) 1 s.shape.depth c.descend.ensures.reads c.read_node.ensures.reads (omega (arith, some))

pub returns-clause-reads : goal.returns-clause-reads
returns-clause-reads g c =
    let s = g.N.NodeStore.state c.args.store.now in
    let some : 0 < s.shape.depth = (subst (λ o. IsSome o → 0 < s.shape.depth) c.in-Some.is c.in_ok-node.ensures.depth) (search rules) in
    reads_both (s.shape.depth - 1) 1 s.shape.depth c.descend.ensures.reads c.read_node.ensures.reads (omega (arith, some))
