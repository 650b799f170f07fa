use Rattle.std.specs.Prelude.{Option, IfNone, IfSome}
use Rattle.std.proofs.Common.{◌≡◌, ◌⊎◌, [], ◌<◌, ◌-◌, ◌+◌, length, set, ap, sym, subst, ◌∙◌, arith, refl, inl, inr, true}
use Rattle.std.proofs.lemmas.Bool.{true≢false}
use Rattle.std.proofs.lemmas.List.{length-set, get_or-set_same}
use Rattle.btree_node.specs.Node.{items}
use Rattle.btree_node.specs.Tree.{IsTreeNode}
use Rattle.btree_edit.specs.Reading.{HasNoKey, IsLead, IsPlace}
use Rattle.btree_edit.specs.Desk.{HoldsLeaf}
use Rattle.btree_edit.specs.Way.{stop_at, LeadsWay}
use Rattle.btree_edit.specs.declared.desk.PathStep.{PathStep}
use Rattle.btree_edit.specs.declared.search.ChildStep.{ChildStep}
use Rattle.btree_edit.proofs.Descent.{leads_root, leads_root_front, leads_node, leads_keys}
use Rattle.btree_edit.proofs.Repeated.{reads_none, reads_both, still_node}
use Rattle.btree_edit.proofs.Ways.{IsOnWay, on_root, on_step, on_leaf, bare_root}
use Rattle.btree_edit.proofs.tracing.find_path.Goals as goal

pub loop-level-init : goal.loop-level-init
loop-level-init g c =
    let s = g.N.NodeStore.state c.args.store.now in
    let shape = c.shape-shape.ensures in
    let depth : c.shape-shape.result.depth ≡ s.shape.depth = ap (λ h. h.depth) shape in
    record {
      shape = shape;
      some = omega arith;
      most = omega arith;
      way = λ tells.
          let ascends = (c.requires.tree tells).ordered.ascends 0 (omega arith) in
          subst (λ r. IsOnWay g.K.KeyOrder.cmp c.args.key.now s c.args.desk.now.path 0 r) (sym (ap (λ h. h.root) shape))
          (on_root g.K.KeyOrder.cmp g.met.K.KeyOrder.total c.args.key.now s c.args.desk.now.path (leads_root g.K.KeyOrder.cmp g.met.K.KeyOrder.total c.args.key.now s ascends)
          (leads_root_front g.K.KeyOrder.cmp g.met.K.KeyOrder.total c.args.key.now s ascends));
      desk = c.requires.desk;
      held = refl;
      first = refl;
      reads = reads_none s;
      later = omega arith;
      below = g.met.N.NodeStore.follows_refl c.args.store.now;
    }

pub returns-in_default-clause-none : goal.returns-in_default-clause-none
returns-in_default-clause-none g c = λ tells not some.
    let s = g.N.NodeStore.state c.args.store.now in
    let now = g.N.NodeStore.state c.loop-level.store in
    let t = c.requires.tree tells in
    let before = c.loop-level.invariant in
    let deep : c.shape-shape.result.depth ≡ s.shape.depth = ap (λ h. h.depth) c.shape-shape.ensures in
    let height : s.shape.depth - c.loop-level.level ≡ c.shape-shape.result.depth - c.loop-level.level = omega arith in
    let node : IsTreeNode s (c.shape-shape.result.depth - c.loop-level.level) c.loop-level.node = subst (λ h. IsTreeNode s h c.loop-level.node) height
    (leads_node g.K.KeyOrder.is_key g.K.KeyOrder.cmp g.met.K.KeyOrder.total g.met.K.KeyOrder.key_length s t.levels t.ordered c.args.key.now c.loop-level.level c.loop-level.node (before.way tells).leads (omega (arith, c.loop-level-test.true))) in
    let still = still_node c.loop-level.level (c.shape-shape.result.depth - c.loop-level.level) c.loop-level.node before.reads tells node in
    let same = (before.reads.tree tells).nodes c.loop-level.node in
    let inside : c.loop-level.level < s.shape.depth = omega (arith, c.loop-level-test.true) in
    let none = subst (λ (o : Option ChildStep). IfNone o (HasNoKey g.K.KeyOrder.is_key (items (now.nodes c.loop-level.node)) ⊎ (items (now.nodes c.loop-level.node) ≡ []))) c.in_default.is
    (c.in_ok-step.ensures.none still.0 still.1 still.2 (omega (arith, before.most))) in
    elim none [
      | inl no_key ↦ absurd (leads_keys g.K.KeyOrder.is_key g.K.KeyOrder.cmp g.met.K.KeyOrder.total g.met.K.KeyOrder.key_length s t.levels t.ordered c.args.key.now c.loop-level.level c.loop-level.node (before.way tells).leads inside
          (subst (λ l. HasNoKey g.K.KeyOrder.is_key (items l)) same no_key))
      | inr empty ↦ bare_root g.K.KeyOrder.is_key g.K.KeyOrder.cmp g.met.K.KeyOrder.total g.met.K.KeyOrder.key_length s t.levels t.ordered c.args.key.now c.loop-level.desk.path c.loop-level.level c.loop-level.node (before.way tells) inside
          (ap (λ l. length (items l)) (sym same) ∙ ap length empty)
    ]

pub loop-level-preserved : goal.loop-level-preserved
loop-level-preserved g c =
    let s = g.N.NodeStore.state c.args.store.now in
    let now = g.N.NodeStore.state c.loop-level.store in
    let before = c.loop-level.invariant in
    let deep : c.shape-shape.result.depth ≡ s.shape.depth = ap (λ h. h.depth) c.shape-shape.ensures in
    let low : c.loop-level.level + 1 < s.shape.depth = omega (arith, c.loop-level-test.true) in
    record {
      shape = before.shape;
      some = before.some;
      most = before.most;
      way = λ tells.
          let t = c.requires.tree tells in
          let same = (before.reads.tree tells).nodes c.loop-level.node in
          let lead = subst (λ (o : Option ChildStep). IfSome o (λ step. IsLead g.K.KeyOrder.cmp c.args.key.now (items (now.nodes c.loop-level.node)) step)) c.in-Some.is (c.in_ok-step.ensures.step (before.reads.same.tells ∙ tells)) in
          on_step g.K.KeyOrder.is_key g.K.KeyOrder.cmp g.met.K.KeyOrder.total g.met.K.KeyOrder.key_length s t.levels t.ordered c.args.key.now c.loop-level.desk.path c.loop-level.level c.loop-level.node (before.way tells)
          (record { node = c.loop-level.node; at = c.in-Some.step.index }) (omega (arith, before.desk.path, before.most)) refl low c.in-Some.step
          (subst (λ l. IsLead g.K.KeyOrder.cmp c.args.key.now (items l) c.in-Some.step) same lead) refl;
      desk = record {
        node = c.lead.ensures.size ∙ before.desk.node;
        other = before.desk.other;
        held = before.desk.held;
        first = before.desk.first;
        second = before.desk.second;
        path = length-set c.loop-level.desk.path c.loop-level.level (record { node = c.loop-level.node; at = c.in-Some.step.index }) ∙ before.desk.path;
      };
      held = before.held;
      first = before.first;
      reads = reads_both c.loop-level.level 1 (c.loop-level.level + 1) before.reads c.lead.ensures.reads (omega arith);
      later = omega (arith, before.later, c.lead.ensures.cause.later);
      below = g.met.N.NodeStore.follows_trans c.args.store.now c.loop-level.store c.lead.new.store before.below c.lead.ensures.below;
    }

pub returns-then-not-branch-clause-none : goal.returns-then-not-branch-clause-none
returns-then-not-branch-clause-none g c = λ tells not some.
    let s = g.N.NodeStore.state c.args.store.now in
    let t = c.requires.tree tells in
    let before = c.loop-level.invariant in
    let deep : c.shape-shape.result.depth ≡ s.shape.depth = ap (λ h. h.depth) c.shape-shape.ensures in
    let last : s.shape.depth - c.loop-level.level ≡ 1 = omega (arith, c.loop-level-test.false, c.loop-level.auto.level-end) in
    let node : IsTreeNode s 1 c.loop-level.node = subst (λ h. IsTreeNode s h c.loop-level.node) last
    (leads_node g.K.KeyOrder.is_key g.K.KeyOrder.cmp g.met.K.KeyOrder.total g.met.K.KeyOrder.key_length s t.levels t.ordered c.args.key.now c.loop-level.level c.loop-level.node (before.way tells).leads (omega arith)) in
    let still = still_node c.loop-level.level 1 c.loop-level.node before.reads tells node in
    let yes : c.in_ok-read_node.field-0 ≡ true = c.in_ok-read_node.ensures.sound still.0 still.1 still.2 (omega arith) in
    absurd (true≢false (sym yes ∙ c.if-not-branch.true))

pub returns-in_default-place-clause-none : goal.returns-in_default-place-clause-none
returns-in_default-place-clause-none g c = λ tells not some.
    let s = g.N.NodeStore.state c.args.store.now in
    let t = c.requires.tree tells in
    let before = c.loop-level.invariant in
    let deep : c.shape-shape.result.depth ≡ s.shape.depth = ap (λ h. h.depth) c.shape-shape.ensures in
    let last : s.shape.depth - c.loop-level.level ≡ 1 = omega (arith, c.loop-level-test.false, c.loop-level.auto.level-end) in
    let yes : c.in_ok-read_node.field-0 ≡ true = c.if-not-branch.false in
    let into : c.read_node.new.into ≡ s.nodes c.loop-level.node = c.in_ok-read_node.ensures.value (before.reads.same.tells ∙ tells) yes ∙ (before.reads.tree tells).nodes c.loop-level.node in
    absurd (leads_keys g.K.KeyOrder.is_key g.K.KeyOrder.cmp g.met.K.KeyOrder.total g.met.K.KeyOrder.key_length s t.levels t.ordered c.args.key.now c.loop-level.level c.loop-level.node (before.way tells).leads (omega arith)
    (subst (λ l. HasNoKey g.K.KeyOrder.is_key (items l)) (c.bytes.ensures.value ∙ into) c.in_default-place.ensures.no_key))

pub returns-clause-way : goal.returns-clause-way
returns-clause-way g c = λ tells yes_is.
    let s = g.N.NodeStore.state c.args.store.now in
    let t = c.requires.tree tells in
    let before = c.loop-level.invariant in
    let deep : c.shape-shape.result.depth ≡ s.shape.depth = ap (λ h. h.depth) c.shape-shape.ensures in
    let last : c.loop-level.level + 1 ≡ s.shape.depth = omega (arith, c.loop-level-test.false, c.loop-level.auto.level-end) in
    let yes : c.in_ok-read_node.field-0 ≡ true = c.if-not-branch.false in
    let into : c.read_node.new.into ≡ s.nodes c.loop-level.node = c.in_ok-read_node.ensures.value (before.reads.same.tells ∙ tells) yes ∙ (before.reads.tree tells).nodes c.loop-level.node in
    let place : IsPlace g.K.KeyOrder.cmp c.args.key.now (items (s.nodes c.loop-level.node)) c.in-Some-place.at = subst (λ l. IsPlace g.K.KeyOrder.cmp c.args.key.now (items l) c.in-Some-place.at) (c.bytes.ensures.value ∙ into) c.in-Some-place.ensures.place in
    let there : c.loop-level.level ≡ c.shape-shape.result.depth - 1 = omega arith in
    subst (λ i. LeadsWay g.K.KeyOrder.cmp c.args.key.now s (set c.loop-level.desk.path i (record { node = c.loop-level.node; at = c.in-Some-place.at }))) there
    (on_leaf g.K.KeyOrder.is_key g.K.KeyOrder.cmp g.met.K.KeyOrder.total g.met.K.KeyOrder.key_length s t.levels t.ordered c.args.key.now c.loop-level.desk.path c.loop-level.level c.loop-level.node (before.way tells)
    (record { node = c.loop-level.node; at = c.in-Some-place.at }) (omega (arith, before.desk.path, before.most)) refl last place)

pub returns-clause-there : goal.returns-clause-there
returns-clause-there g c = λ yes_is.
    let s = g.N.NodeStore.state c.args.store.now in
    let t = g.N.NodeStore.state c.read_node.new.store in
    let before = c.loop-level.invariant in
    let reads = c.read_node.ensures.reads in
    let yes : c.in_ok-read_node.field-0 ≡ true = c.if-not-branch.false in
    let deep : c.shape-shape.result.depth ≡ s.shape.depth = ap (λ h. h.depth) c.shape-shape.ensures in
    let last : c.shape-shape.result.depth - 1 ≡ t.shape.depth - 1 = omega (arith, deep, ap (λ h. h.depth) reads.shape, ap (λ h. h.depth) before.reads.shape) in
    let stop : stop_at (set c.loop-level.desk.path (c.shape-shape.result.depth - 1) (record { node = c.loop-level.node; at = c.in-Some-place.at })) (t.shape.depth - 1) ≡ record { node = c.loop-level.node; at = c.in-Some-place.at } =
    ap (λ i. stop_at (set c.loop-level.desk.path (c.shape-shape.result.depth - 1) (record { node = c.loop-level.node; at = c.in-Some-place.at })) i) (sym last)
    ∙ get_or-set_same c.loop-level.desk.path (c.shape-shape.result.depth - 1) (record { node = c.loop-level.node; at = c.in-Some-place.at }) (record { node = 0; at = 0 }) (omega (arith, deep, before.desk.path, before.most, before.some)) in
    record {
      holds = subst (λ (x : PathStep). HoldsLeaf t c.read_node.new.into x.node) (sym stop) (record {
        inside = omega (arith, c.in_ok-read_node.ensures.inside yes, reads.same.total);
        well_formed = (c.in_ok-read_node.ensures.is_node yes).well_formed;
        value = λ tells_now.
            let tells = sym reads.same.tells ∙ tells_now in
            c.in_ok-read_node.ensures.value tells yes ∙ sym ((reads.tree tells).nodes c.loop-level.node);
      });
      is_leaf = c.in_ok-read_node.ensures.is_node yes;
    }

pub returns-in_err-step-clause-reads : goal.returns-in_err-step-clause-reads
returns-in_err-step-clause-reads g c =
    let s = g.N.NodeStore.state c.args.store.now in
    let deep : c.shape-shape.result.depth ≡ s.shape.depth = ap (λ h. h.depth) c.shape-shape.ensures in
    reads_both c.loop-level.level 1 s.shape.depth c.loop-level.invariant.reads c.lead.ensures.reads (omega (arith, c.loop-level-test.true))

pub returns-in_default-clause-reads : goal.returns-in_default-clause-reads
returns-in_default-clause-reads g c =
    let s = g.N.NodeStore.state c.args.store.now in
    let deep : c.shape-shape.result.depth ≡ s.shape.depth = ap (λ h. h.depth) c.shape-shape.ensures in
    reads_both c.loop-level.level 1 s.shape.depth c.loop-level.invariant.reads c.lead.ensures.reads (omega (arith, c.loop-level-test.true))

pub returns-in_err-read_node-clause-reads : goal.returns-in_err-read_node-clause-reads
returns-in_err-read_node-clause-reads g c =
    let s = g.N.NodeStore.state c.args.store.now in
    let deep : c.shape-shape.result.depth ≡ s.shape.depth = ap (λ h. h.depth) c.shape-shape.ensures in
    let last : c.loop-level.level + 1 ≡ s.shape.depth = omega (arith, c.loop-level-test.false, c.loop-level.auto.level-end) in
    reads_both c.loop-level.level 1 s.shape.depth c.loop-level.invariant.reads c.read_node.ensures.reads (omega (arith, last))

pub returns-then-not-branch-clause-reads : goal.returns-then-not-branch-clause-reads
returns-then-not-branch-clause-reads g c =
    let s = g.N.NodeStore.state c.args.store.now in
    let deep : c.shape-shape.result.depth ≡ s.shape.depth = ap (λ h. h.depth) c.shape-shape.ensures in
    let last : c.loop-level.level + 1 ≡ s.shape.depth = omega (arith, c.loop-level-test.false, c.loop-level.auto.level-end) in
    reads_both c.loop-level.level 1 s.shape.depth c.loop-level.invariant.reads c.read_node.ensures.reads (omega (arith, last))

pub returns-in_default-place-clause-reads : goal.returns-in_default-place-clause-reads
returns-in_default-place-clause-reads g c =
    let s = g.N.NodeStore.state c.args.store.now in
    let deep : c.shape-shape.result.depth ≡ s.shape.depth = ap (λ h. h.depth) c.shape-shape.ensures in
    let last : c.loop-level.level + 1 ≡ s.shape.depth = omega (arith, c.loop-level-test.false, c.loop-level.auto.level-end) in
    reads_both c.loop-level.level 1 s.shape.depth c.loop-level.invariant.reads c.read_node.ensures.reads (omega (arith, last))

pub returns-clause-reads : goal.returns-clause-reads
returns-clause-reads g c =
    let s = g.N.NodeStore.state c.args.store.now in
    let deep : c.shape-shape.result.depth ≡ s.shape.depth = ap (λ h. h.depth) c.shape-shape.ensures in
    let last : c.loop-level.level + 1 ≡ s.shape.depth = omega (arith, c.loop-level-test.false, c.loop-level.auto.level-end) in
    reads_both c.loop-level.level 1 s.shape.depth c.loop-level.invariant.reads c.read_node.ensures.reads (omega (arith, last))
