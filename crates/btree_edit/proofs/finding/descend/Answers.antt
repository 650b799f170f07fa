use Rattle.std.proofs.Common.{◌≡◌, ◌≤◌, ◌<◌, ◌-◌, ◌+◌, length, ap, sym, subst, ◌∙◌, arith, refl, inl, inr, ◌⊎◌, []}
use Rattle.std.specs.Prelude.{Option, IfNone, IfSome}
use Rattle.btree_node.specs.Node.{items}
use Rattle.btree_node.specs.Tree.{IsTreeNode}
use Rattle.btree_edit.specs.Reading.{LeadsTo, HasNoKey, IsLead}
use Rattle.btree_edit.specs.declared.search.ChildStep.{ChildStep}
use Rattle.btree_edit.proofs.Descent.{leads_root, leads_step, leads_node, leads_keys, leads_empty}
use Rattle.btree_edit.proofs.Repeated.{reads_none, reads_both, still_node}
use Rattle.btree_edit.proofs.finding.descend.Goals as goal

pub loop-height-init : goal.loop-height-init
loop-height-init g c =
    let s = g.N.NodeStore.state c.args.store.now in
    let shape = c.shape-shape.ensures in
    let depth : c.shape-shape.result.depth ≡ s.shape.depth = ap (λ h. h.depth) shape in
    let root : s.shape.root ≡ c.shape-shape.result.root = sym (ap (λ h. h.root) shape) in
    record {
      low = omega arith;
      high = omega arith;
      most = omega arith;
      leads = λ tells.
          subst (λ r. LeadsTo g.K.KeyOrder.cmp c.args.key.now s (s.shape.depth - c.shape-shape.result.depth) r) root
          (subst (λ j. LeadsTo g.K.KeyOrder.cmp c.args.key.now s j s.shape.root) {x = 0} {y = s.shape.depth - c.shape-shape.result.depth} (omega arith)
          (leads_root g.K.KeyOrder.cmp g.met.K.KeyOrder.total c.args.key.now s ((c.requires.tree tells).ordered.ascends 0 (omega arith))));
      desk = c.requires.desk;
      held = refl;
      reads = reads_both 0 0 (s.shape.depth - c.shape-shape.result.depth) (reads_none s) (reads_none s) (omega arith);
      later = omega arith;
      below = g.met.N.NodeStore.follows_refl c.args.store.now;
    }

pub returns-in_default-clause-leaf : goal.returns-in_default-clause-leaf
returns-in_default-clause-leaf g c = λ tells.
    let s = g.N.NodeStore.state c.args.store.now in
    let now = g.N.NodeStore.state c.loop-height.store in
    let t = c.requires.tree tells in
    let before = c.loop-height.invariant in
    let place : s.shape.depth - (s.shape.depth - c.loop-height.height) ≡ c.loop-height.height = omega (arith, before.high) in
    let node : IsTreeNode s c.loop-height.height c.loop-height.node = subst (λ h. IsTreeNode s h c.loop-height.node) place
    (leads_node g.K.KeyOrder.is_key g.K.KeyOrder.cmp g.met.K.KeyOrder.total g.met.K.KeyOrder.key_length s t.levels t.ordered c.args.key.now (s.shape.depth - c.loop-height.height) c.loop-height.node (before.leads tells) (omega (arith, before.high, before.low))) in
    let still = still_node (s.shape.depth - c.loop-height.height) c.loop-height.height c.loop-height.node before.reads tells node in
    let same = (before.reads.tree tells).nodes c.loop-height.node in
    let inside : s.shape.depth - c.loop-height.height < s.shape.depth = omega (arith, before.high, before.low) in
    let none = subst (λ (o : Option ChildStep). IfNone o (HasNoKey g.K.KeyOrder.is_key (items (now.nodes c.loop-height.node)) ⊎ (items (now.nodes c.loop-height.node) ≡ []))) c.in_default.is
    (c.in_ok-step.ensures.none still.0 still.1 still.2 (omega (arith, before.high, before.most))) in
    elim none [
      | inl no_key ↦ absurd (leads_keys g.K.KeyOrder.is_key g.K.KeyOrder.cmp g.met.K.KeyOrder.total g.met.K.KeyOrder.key_length s t.levels t.ordered c.args.key.now (s.shape.depth - c.loop-height.height) c.loop-height.node (before.leads tells) inside
          (subst (λ l. HasNoKey g.K.KeyOrder.is_key (items l)) same no_key))
      | inr empty ↦ leads_empty g.K.KeyOrder.is_key g.K.KeyOrder.cmp g.met.K.KeyOrder.total g.met.K.KeyOrder.key_length s t.levels t.ordered c.args.key.now (s.shape.depth - c.loop-height.height) c.loop-height.node (before.leads tells) inside
          (ap (λ l. length (items l)) (sym same) ∙ ap length empty)
    ]

pub loop-height-preserved : goal.loop-height-preserved
loop-height-preserved g c =
    let s = g.N.NodeStore.state c.args.store.now in
    let now = g.N.NodeStore.state c.loop-height.store in
    let before = c.loop-height.invariant in
    let many : c.loop-height.height ≤ s.shape.depth = before.high in
    let low : 1 < c.loop-height.height = c.loop-height-test.true in
    record {
      low = omega arith;
      high = omega arith;
      most = before.most;
      leads = λ tells.
          let t = c.requires.tree tells in
          let same = (before.reads.tree tells).nodes c.loop-height.node in
          let lead = subst (λ (o : Option ChildStep). IfSome o (λ step. IsLead g.K.KeyOrder.cmp c.args.key.now (items (now.nodes c.loop-height.node)) step)) c.in-Some.is (c.in_ok-step.ensures.step (before.reads.same.tells ∙ tells)) in
          let next : s.shape.depth - c.loop-height.height + 1 ≡ s.shape.depth - (c.loop-height.height - 1) = omega arith in
          subst (λ i. LeadsTo g.K.KeyOrder.cmp c.args.key.now s i c.in-Some.step.child) next
          (leads_step g.K.KeyOrder.is_key g.K.KeyOrder.cmp g.met.K.KeyOrder.total g.met.K.KeyOrder.key_length s t.levels t.ordered (s.shape.depth - c.loop-height.height) (omega arith) c.args.key.now c.loop-height.node (before.leads tells) c.in-Some.step
          (subst (λ l. IsLead g.K.KeyOrder.cmp c.args.key.now (items l) c.in-Some.step) same lead));
      desk = record { node = c.lead.ensures.size ∙ before.desk.node; other = before.desk.other; held = before.desk.held; first = before.desk.first; second = before.desk.second; path = before.desk.path };
      held = before.held;
      reads = reads_both (s.shape.depth - c.loop-height.height) 1 (s.shape.depth - (c.loop-height.height - 1)) before.reads c.lead.ensures.reads (omega arith);
      later = omega (arith, before.later, c.lead.ensures.cause.later);
      below = g.met.N.NodeStore.follows_trans c.args.store.now c.loop-height.store c.lead.new.store before.below c.lead.ensures.below;
    }

pub returns-in_err-step-clause-reads : goal.returns-in_err-step-clause-reads
returns-in_err-step-clause-reads g c =
    let s = g.N.NodeStore.state c.args.store.now in
    reads_both (s.shape.depth - c.loop-height.height) 1 (s.shape.depth - 1) c.loop-height.invariant.reads c.lead.ensures.reads (omega (arith, c.loop-height.invariant.high, c.loop-height-test.true))

pub returns-in_default-clause-reads : goal.returns-in_default-clause-reads
returns-in_default-clause-reads g c =
    let s = g.N.NodeStore.state c.args.store.now in
    reads_both (s.shape.depth - c.loop-height.height) 1 (s.shape.depth - 1) c.loop-height.invariant.reads c.lead.ensures.reads (omega (arith, c.loop-height.invariant.high, c.loop-height-test.true))
