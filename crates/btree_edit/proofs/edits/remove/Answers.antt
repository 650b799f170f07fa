use Rattle.std.proofs.Common.{◌≡◌, ◌≤◌, ◌+◌, ◌*◌, ◌^◌, length, inl, inr, sym, ◌∙◌, ap, subst, arith}
use Rattle.std.specs.Prelude.{IsTrue}
use Rattle.std.proofs.lemmas.Bool.{cases_lt}
use Rattle.std.proofs.lemmas.List.Elements.{All-same}
use Rattle.btree_node.specs.Levels.{Pair}
use Rattle.btree_node.specs.Tree.{pairs_of}
use Rattle.btree_edit.specs.Desk.{HasKey}
use Rattle.btree_edit.specs.LevelEdit.{node_room}
use Rattle.btree_edit.specs.Sorted.{DropsPair}
use Rattle.btree_edit.proofs.TracedKeys.{is_so}
use Rattle.btree_edit.proofs.Outcomes.{bounds_read, bounds_same, read_tree, read_pairs, edits_read}
use Rattle.btree_edit.proofs.PairEdits.{way_read}
use Rattle.btree_edit.proofs.Values.{values_dropped}
use Rattle.btree_edit.proofs.edits.remove.Goals as goal

pub drop_pair-requires-clause-there : goal.drop_pair-requires-clause-there
drop_pair-requires-clause-there g c = c.in_ok-traced.ensures.there

pub drop_pair-requires-clause-tree : goal.drop_pair-requires-clause-tree
drop_pair-requires-clause-tree g c = λ tells_m.
    let tells : IsTrue (g.N.NodeStore.state c.args.store.now).tells = sym c.trace.ensures.reads.same.tells ∙ tells_m in
    let s = g.N.NodeStore.state c.args.store.now in
    let m = g.N.NodeStore.state c.trace.new.store in
    let reads = c.trace.ensures.reads in
    let total : s.shape.total ≡ c.total_of-total.result = ap (λ h. h.total) (sym c.shape-shape.ensures) ∙ sym c.total_of-total.ensures in
    let small : s.shape.total ≤ 2 ^ 32 = omega (arith, total, c.total_of-total.type_inv) in
    let tree = c.requires.tree tells in
    read_tree g.met.K.KeyOrder.key_length s.shape.depth s m reads tells small tree

pub drop_pair-requires-clause-way : goal.drop_pair-requires-clause-way
drop_pair-requires-clause-way g c = λ tells_m has.
    let tells : IsTrue (g.N.NodeStore.state c.args.store.now).tells = sym c.trace.ensures.reads.same.tells ∙ tells_m in
    let reads = c.trace.ensures.reads in
    way_read g.K.KeyOrder.cmp c.args.key.now (g.N.NodeStore.state c.args.store.now) (g.N.NodeStore.state c.trace.new.store) c.trace.new.desk.path reads.shape (reads.tree tells).nodes (c.in_ok-traced.ensures.way tells has)

pub returns-then-not-traced-clause-pairs : goal.returns-then-not-traced-clause-pairs
returns-then-not-traced-clause-pairs g c = λ tells.
    let s = g.N.NodeStore.state c.args.store.now in
    let m = g.N.NodeStore.state c.trace.new.store in
    let reads = c.trace.ensures.reads in
    let total : s.shape.total ≡ c.total_of-total.result = ap (λ h. h.total) (sym c.shape-shape.ensures) ∙ sym c.total_of-total.ensures in
    let small : s.shape.total ≤ 2 ^ 32 = omega (arith, total, c.total_of-total.type_inv) in
    let tree = c.requires.tree tells in
    read_pairs g.met.K.KeyOrder.key_length s.shape.depth s m reads tells small tree

pub returns-then-not-traced-clause-tree : goal.returns-then-not-traced-clause-tree
returns-then-not-traced-clause-tree g c = λ tells.
    let s = g.N.NodeStore.state c.args.store.now in
    let m = g.N.NodeStore.state c.trace.new.store in
    let reads = c.trace.ensures.reads in
    let total : s.shape.total ≡ c.total_of-total.result = ap (λ h. h.total) (sym c.shape-shape.ensures) ∙ sym c.total_of-total.ensures in
    let small : s.shape.total ≤ 2 ^ 32 = omega (arith, total, c.total_of-total.type_inv) in
    let tree = c.requires.tree tells in
    read_tree g.met.K.KeyOrder.key_length s.shape.depth s m reads tells small tree

pub returns-clause-pairs : goal.returns-clause-pairs
returns-clause-pairs g c = λ tells.
    let s = g.N.NodeStore.state c.args.store.now in
    let m = g.N.NodeStore.state c.trace.new.store in
    let reads = c.trace.ensures.reads in
    let total : s.shape.total ≡ c.total_of-total.result = ap (λ h. h.total) (sym c.shape-shape.ensures) ∙ sym c.total_of-total.ensures in
    let small : s.shape.total ≤ 2 ^ 32 = omega (arith, total, c.total_of-total.type_inv) in
    let tree = c.requires.tree tells in
    let t = g.N.NodeStore.state c.drop_pair.new.store in
    let has : HasKey g.K.KeyOrder.cmp c.args.key.now (pairs_of m) = subst (λ l. HasKey g.K.KeyOrder.cmp c.args.key.now l) (sym (read_pairs g.met.K.KeyOrder.key_length s.shape.depth s m reads tells small tree)) (c.in_ok-traced.ensures.found tells (is_so c.in_ok-traced.traced.has_key c.if-not-traced.false)) in
    let wide : 3 * (g.K.KeyOrder.MAX + 8) ≤ node_room m.shape.node_size = subst (λ n. 3 * (g.K.KeyOrder.MAX + 8) ≤ node_room n) (sym reads.same.node_size) (c.requires.wide tells) in
    let edits = edits_read g.met.K.KeyOrder.key_length s.shape.depth s m reads tells small tree t (λ old new. DropsPair g.K.KeyOrder.cmp c.args.key.now old new)
    (c.in_ok-drop_pair.ensures.drops (reads.same.tells ∙ tells) wide has) in
    edits.pairs

pub returns-clause-tree : goal.returns-clause-tree
returns-clause-tree g c = λ tells.
    let s = g.N.NodeStore.state c.args.store.now in
    let m = g.N.NodeStore.state c.trace.new.store in
    let reads = c.trace.ensures.reads in
    let total : s.shape.total ≡ c.total_of-total.result = ap (λ h. h.total) (sym c.shape-shape.ensures) ∙ sym c.total_of-total.ensures in
    let small : s.shape.total ≤ 2 ^ 32 = omega (arith, total, c.total_of-total.type_inv) in
    let tree = c.requires.tree tells in
    let t = g.N.NodeStore.state c.drop_pair.new.store in
    let has : HasKey g.K.KeyOrder.cmp c.args.key.now (pairs_of m) = subst (λ l. HasKey g.K.KeyOrder.cmp c.args.key.now l) (sym (read_pairs g.met.K.KeyOrder.key_length s.shape.depth s m reads tells small tree)) (c.in_ok-traced.ensures.found tells (is_so c.in_ok-traced.traced.has_key c.if-not-traced.false)) in
    let wide : 3 * (g.K.KeyOrder.MAX + 8) ≤ node_room m.shape.node_size = subst (λ n. 3 * (g.K.KeyOrder.MAX + 8) ≤ node_room n) (sym reads.same.node_size) (c.requires.wide tells) in
    let edits = edits_read g.met.K.KeyOrder.key_length s.shape.depth s m reads tells small tree t (λ old new. DropsPair g.K.KeyOrder.cmp c.args.key.now old new)
    (c.in_ok-drop_pair.ensures.drops (reads.same.tells ∙ tells) wide has) in
    edits.tree

pub returns-clause-others : goal.returns-clause-others
returns-clause-others g c = λ tells.
    let s = g.N.NodeStore.state c.args.store.now in
    let m = g.N.NodeStore.state c.trace.new.store in
    let reads = c.trace.ensures.reads in
    let total : s.shape.total ≡ c.total_of-total.result = ap (λ h. h.total) (sym c.shape-shape.ensures) ∙ sym c.total_of-total.ensures in
    let small : s.shape.total ≤ 2 ^ 32 = omega (arith, total, c.total_of-total.type_inv) in
    let tree = c.requires.tree tells in
    let t = g.N.NodeStore.state c.drop_pair.new.store in
    let has : HasKey g.K.KeyOrder.cmp c.args.key.now (pairs_of m) = subst (λ l. HasKey g.K.KeyOrder.cmp c.args.key.now l) (sym (read_pairs g.met.K.KeyOrder.key_length s.shape.depth s m reads tells small tree)) (c.in_ok-traced.ensures.found tells (is_so c.in_ok-traced.traced.has_key c.if-not-traced.false)) in
    let wide : 3 * (g.K.KeyOrder.MAX + 8) ≤ node_room m.shape.node_size = subst (λ n. 3 * (g.K.KeyOrder.MAX + 8) ≤ node_room n) (sym reads.same.node_size) (c.requires.wide tells) in
    let edits = edits_read g.met.K.KeyOrder.key_length s.shape.depth s m reads tells small tree t (λ old new. DropsPair g.K.KeyOrder.cmp c.args.key.now old new)
    (c.in_ok-drop_pair.ensures.drops (reads.same.tells ∙ tells) wide has) in
    edits.others

pub returns-clause-roots : goal.returns-clause-roots
returns-clause-roots g c = λ tells.
    let s = g.N.NodeStore.state c.args.store.now in
    let m = g.N.NodeStore.state c.trace.new.store in
    let reads = c.trace.ensures.reads in
    let total : s.shape.total ≡ c.total_of-total.result = ap (λ h. h.total) (sym c.shape-shape.ensures) ∙ sym c.total_of-total.ensures in
    let small : s.shape.total ≤ 2 ^ 32 = omega (arith, total, c.total_of-total.type_inv) in
    let tree = c.requires.tree tells in
    let t = g.N.NodeStore.state c.drop_pair.new.store in
    let has : HasKey g.K.KeyOrder.cmp c.args.key.now (pairs_of m) = subst (λ l. HasKey g.K.KeyOrder.cmp c.args.key.now l) (sym (read_pairs g.met.K.KeyOrder.key_length s.shape.depth s m reads tells small tree)) (c.in_ok-traced.ensures.found tells (is_so c.in_ok-traced.traced.has_key c.if-not-traced.false)) in
    let wide : 3 * (g.K.KeyOrder.MAX + 8) ≤ node_room m.shape.node_size = subst (λ n. 3 * (g.K.KeyOrder.MAX + 8) ≤ node_room n) (sym reads.same.node_size) (c.requires.wide tells) in
    bounds_read g.K.KeyOrder.MAX s.shape.depth s m t t.shape.depth t.shape.root reads tells (c.in_ok-drop_pair.ensures.roots (reads.same.tells ∙ tells) wide has)

pub returns-then-not-traced-clause-roots : goal.returns-then-not-traced-clause-roots
returns-then-not-traced-clause-roots g c = λ tells.
    bounds_same g.K.KeyOrder.MAX (g.N.NodeStore.state c.args.store.now).shape.depth (g.N.NodeStore.state c.args.store.now) (g.N.NodeStore.state c.trace.new.store) c.trace.ensures.reads tells

pub returns-clause-thick : goal.returns-clause-thick
returns-clause-thick g c = λ tells done.
    let s = g.N.NodeStore.state c.args.store.now in
    let m = g.N.NodeStore.state c.trace.new.store in
    let reads = c.trace.ensures.reads in
    let total : s.shape.total ≡ c.total_of-total.result = ap (λ h. h.total) (sym c.shape-shape.ensures) ∙ sym c.total_of-total.ensures in
    let small : s.shape.total ≤ 2 ^ 32 = omega (arith, total, c.total_of-total.type_inv) in
    let tree = c.requires.tree tells in
    let t = g.N.NodeStore.state c.drop_pair.new.store in
    let has : HasKey g.K.KeyOrder.cmp c.args.key.now (pairs_of m) = subst (λ l. HasKey g.K.KeyOrder.cmp c.args.key.now l) (sym (read_pairs g.met.K.KeyOrder.key_length s.shape.depth s m reads tells small tree)) (c.in_ok-traced.ensures.found tells (is_so c.in_ok-traced.traced.has_key c.if-not-traced.false)) in
    let wide : 3 * (g.K.KeyOrder.MAX + 8) ≤ node_room m.shape.node_size = subst (λ n. 3 * (g.K.KeyOrder.MAX + 8) ≤ node_room n) (sym reads.same.node_size) (c.requires.wide tells) in
    c.in_ok-drop_pair.ensures.thick (reads.same.tells ∙ tells) wide has

pub returns-then-not-traced-clause-values : goal.returns-then-not-traced-clause-values
returns-then-not-traced-clause-values g c = λ tells had. All-same (λ (pair : Pair). g.K.KeyOrder.is_value pair.1) _ _ (returns-then-not-traced-clause-pairs g c tells) had

pub returns-clause-values : goal.returns-clause-values
returns-clause-values g c = λ tells had.
    values_dropped g.K.KeyOrder.is_value g.K.KeyOrder.cmp c.args.key.now _ _ (returns-clause-pairs g c tells) had

pub returns-clause-bare : goal.returns-clause-bare
returns-clause-bare g c = λ tells done none.
    let s = g.N.NodeStore.state c.args.store.now in
    let m = g.N.NodeStore.state c.trace.new.store in
    let reads = c.trace.ensures.reads in
    let total : s.shape.total ≡ c.total_of-total.result = ap (λ h. h.total) (sym c.shape-shape.ensures) ∙ sym c.total_of-total.ensures in
    let small : s.shape.total ≤ 2 ^ 32 = omega (arith, total, c.total_of-total.type_inv) in
    let tree = c.requires.tree tells in
    let t = g.N.NodeStore.state c.drop_pair.new.store in
    let has : HasKey g.K.KeyOrder.cmp c.args.key.now (pairs_of m) = subst (λ l. HasKey g.K.KeyOrder.cmp c.args.key.now l) (sym (read_pairs g.met.K.KeyOrder.key_length s.shape.depth s m reads tells small tree)) (c.in_ok-traced.ensures.found tells (is_so c.in_ok-traced.traced.has_key c.if-not-traced.false)) in
    let wide : 3 * (g.K.KeyOrder.MAX + 8) ≤ node_room m.shape.node_size = subst (λ n. 3 * (g.K.KeyOrder.MAX + 8) ≤ node_room n) (sym reads.same.node_size) (c.requires.wide tells) in
    let edits = c.in_ok-drop_pair.ensures.drops (reads.same.tells ∙ tells) wide has in
    elim (cases_lt 0 t.shape.depth) [
      | inl some ↦ absurd (omega (arith, edits.filled some, ap length none))
      | inr low ↦ omega (arith, low)
    ]
