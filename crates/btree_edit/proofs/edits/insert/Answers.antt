use Rattle.std.proofs.Common.{◌≡◌, ◌≤◌, ◌+◌, ◌-◌, ◌*◌, ◌/◌, ◌^◌, ◌++◌, length, sym, ◌∙◌, ap, subst, arith}
use Rattle.std.specs.Prelude.{IsTrue}
use Rattle.std.proofs.lemmas.List.{length-append}
use Rattle.std.proofs.lemmas.List.Elements.{All-same}
use Rattle.btree_node.specs.Levels.{Pair}
use Rattle.btree_node.specs.Tree.{pairs_of}
use Rattle.btree_edit.specs.Desk.{HasKey}
use Rattle.btree_edit.specs.Halves.{record_of}
use Rattle.btree_edit.specs.LevelEdit.{node_room}
use Rattle.btree_edit.specs.Sorted.{AddsPair}
use Rattle.btree_edit.proofs.Outcomes.{bounds_read, bounds_same, read_tree, read_pairs, edits_read}
use Rattle.btree_edit.proofs.PairEdits.{way_read}
use Rattle.btree_edit.proofs.Values.{values_added}
use Rattle.btree_edit.proofs.edits.insert.Goals as goal

pub add-requires-clause-there : goal.add-requires-clause-there
add-requires-clause-there g c = c.in_ok-traced.ensures.there

pub add-requires-clause-tree : goal.add-requires-clause-tree
add-requires-clause-tree g c = λ tells_m.
    let tells : IsTrue (g.N.NodeStore.state c.args.store.now).tells = sym c.trace.ensures.reads.same.tells ∙ tells_m in
    let s = g.N.NodeStore.state c.args.store.now in
    let m = g.N.NodeStore.state c.trace.new.store in
    let reads = c.trace.ensures.reads in
    let total : s.shape.total ≡ c.total_of-total.result = ap (λ h. h.total) (sym c.shape-shape.ensures) ∙ sym c.total_of-total.ensures in
    let small : s.shape.total ≤ 2 ^ 32 = omega (arith, total, c.total_of-total.type_inv) in
    let tree = c.requires.tree tells in
    read_tree g.met.K.KeyOrder.key_length s.shape.depth s m reads tells small tree

pub add-requires-clause-way : goal.add-requires-clause-way
add-requires-clause-way g c = λ tells_m has.
    let tells : IsTrue (g.N.NodeStore.state c.args.store.now).tells = sym c.trace.ensures.reads.same.tells ∙ tells_m in
    let reads = c.trace.ensures.reads in
    way_read g.K.KeyOrder.cmp c.args.key.now (g.N.NodeStore.state c.args.store.now) (g.N.NodeStore.state c.trace.new.store) c.trace.new.desk.path reads.shape (reads.tree tells).nodes (c.in_ok-traced.ensures.way tells has)

pub returns-then-traced-clause-pairs : goal.returns-then-traced-clause-pairs
returns-then-traced-clause-pairs g c = λ tells.
    let s = g.N.NodeStore.state c.args.store.now in
    let m = g.N.NodeStore.state c.trace.new.store in
    let reads = c.trace.ensures.reads in
    let total : s.shape.total ≡ c.total_of-total.result = ap (λ h. h.total) (sym c.shape-shape.ensures) ∙ sym c.total_of-total.ensures in
    let small : s.shape.total ≤ 2 ^ 32 = omega (arith, total, c.total_of-total.type_inv) in
    let tree = c.requires.tree tells in
    read_pairs g.met.K.KeyOrder.key_length s.shape.depth s m reads tells small tree

pub returns-then-traced-clause-tree : goal.returns-then-traced-clause-tree
returns-then-traced-clause-tree g c = λ tells.
    let s = g.N.NodeStore.state c.args.store.now in
    let m = g.N.NodeStore.state c.trace.new.store in
    let reads = c.trace.ensures.reads in
    let total : s.shape.total ≡ c.total_of-total.result = ap (λ h. h.total) (sym c.shape-shape.ensures) ∙ sym c.total_of-total.ensures in
    let small : s.shape.total ≤ 2 ^ 32 = omega (arith, total, c.total_of-total.type_inv) in
    let tree = c.requires.tree tells in
    read_tree g.met.K.KeyOrder.key_length s.shape.depth s m reads tells small tree

pub returns-clause-pairs : goal.returns-clause-pairs
returns-clause-pairs g c = λ tells.
    let s = g.N.NodeStore.state c.args.store.now in
    let m = g.N.NodeStore.state c.trace.new.store in
    let reads = c.trace.ensures.reads in
    let total : s.shape.total ≡ c.total_of-total.result = ap (λ h. h.total) (sym c.shape-shape.ensures) ∙ sym c.total_of-total.ensures in
    let small : s.shape.total ≤ 2 ^ 32 = omega (arith, total, c.total_of-total.type_inv) in
    let tree = c.requires.tree tells in
    let t = g.N.NodeStore.state c.add.new.store in
    let absent : HasKey g.K.KeyOrder.cmp c.args.key.now (pairs_of m) → ⊥ = λ has. c.in_ok-traced.ensures.absent tells c.if-traced.false (subst (λ l. HasKey g.K.KeyOrder.cmp c.args.key.now l) (read_pairs g.met.K.KeyOrder.key_length s.shape.depth s m reads tells small tree) has) in
    let wide : 3 * (g.K.KeyOrder.MAX + 8) ≤ node_room m.shape.node_size = subst (λ n. 3 * (g.K.KeyOrder.MAX + 8) ≤ node_room n) (sym reads.same.node_size) (c.requires.wide tells) in
    let rec_is : record_of c.put.new.self ≡ c.args.key.now ++ c.args.value.now = ap (λ l. l ++ c.put.new.self.value) c.put.ensures.key ∙ ap (λ l. c.args.key.now ++ l) c.put.ensures.value in
    let short : length (record_of c.put.new.self) ≤ m.shape.node_size / 2 - 10 =
    subst (λ n. length (record_of c.put.new.self) ≤ n / 2 - 10) (sym reads.same.node_size) (omega (arith, ap length rec_is, length-append c.args.key.now c.args.value.now, c.requires.short)) in
    let edits = edits_read g.met.K.KeyOrder.key_length s.shape.depth s m reads tells small tree t (λ old new. AddsPair g.K.KeyOrder.cmp c.args.key.now c.put.new.self.value old new)
    (c.in_ok-add.ensures.adds (reads.same.tells ∙ tells) wide c.put.ensures.key short absent) in
    subst (λ v. AddsPair g.K.KeyOrder.cmp c.args.key.now v (pairs_of s) (pairs_of t)) c.put.ensures.value edits.pairs

pub returns-clause-tree : goal.returns-clause-tree
returns-clause-tree g c = λ tells.
    let s = g.N.NodeStore.state c.args.store.now in
    let m = g.N.NodeStore.state c.trace.new.store in
    let reads = c.trace.ensures.reads in
    let total : s.shape.total ≡ c.total_of-total.result = ap (λ h. h.total) (sym c.shape-shape.ensures) ∙ sym c.total_of-total.ensures in
    let small : s.shape.total ≤ 2 ^ 32 = omega (arith, total, c.total_of-total.type_inv) in
    let tree = c.requires.tree tells in
    let t = g.N.NodeStore.state c.add.new.store in
    let absent : HasKey g.K.KeyOrder.cmp c.args.key.now (pairs_of m) → ⊥ = λ has. c.in_ok-traced.ensures.absent tells c.if-traced.false (subst (λ l. HasKey g.K.KeyOrder.cmp c.args.key.now l) (read_pairs g.met.K.KeyOrder.key_length s.shape.depth s m reads tells small tree) has) in
    let wide : 3 * (g.K.KeyOrder.MAX + 8) ≤ node_room m.shape.node_size = subst (λ n. 3 * (g.K.KeyOrder.MAX + 8) ≤ node_room n) (sym reads.same.node_size) (c.requires.wide tells) in
    let rec_is : record_of c.put.new.self ≡ c.args.key.now ++ c.args.value.now = ap (λ l. l ++ c.put.new.self.value) c.put.ensures.key ∙ ap (λ l. c.args.key.now ++ l) c.put.ensures.value in
    let short : length (record_of c.put.new.self) ≤ m.shape.node_size / 2 - 10 =
    subst (λ n. length (record_of c.put.new.self) ≤ n / 2 - 10) (sym reads.same.node_size) (omega (arith, ap length rec_is, length-append c.args.key.now c.args.value.now, c.requires.short)) in
    let edits = edits_read g.met.K.KeyOrder.key_length s.shape.depth s m reads tells small tree t (λ old new. AddsPair g.K.KeyOrder.cmp c.args.key.now c.put.new.self.value old new)
    (c.in_ok-add.ensures.adds (reads.same.tells ∙ tells) wide c.put.ensures.key short absent) in
    edits.tree

pub returns-clause-others : goal.returns-clause-others
returns-clause-others g c = λ tells.
    let s = g.N.NodeStore.state c.args.store.now in
    let m = g.N.NodeStore.state c.trace.new.store in
    let reads = c.trace.ensures.reads in
    let total : s.shape.total ≡ c.total_of-total.result = ap (λ h. h.total) (sym c.shape-shape.ensures) ∙ sym c.total_of-total.ensures in
    let small : s.shape.total ≤ 2 ^ 32 = omega (arith, total, c.total_of-total.type_inv) in
    let tree = c.requires.tree tells in
    let t = g.N.NodeStore.state c.add.new.store in
    let absent : HasKey g.K.KeyOrder.cmp c.args.key.now (pairs_of m) → ⊥ = λ has. c.in_ok-traced.ensures.absent tells c.if-traced.false (subst (λ l. HasKey g.K.KeyOrder.cmp c.args.key.now l) (read_pairs g.met.K.KeyOrder.key_length s.shape.depth s m reads tells small tree) has) in
    let wide : 3 * (g.K.KeyOrder.MAX + 8) ≤ node_room m.shape.node_size = subst (λ n. 3 * (g.K.KeyOrder.MAX + 8) ≤ node_room n) (sym reads.same.node_size) (c.requires.wide tells) in
    let rec_is : record_of c.put.new.self ≡ c.args.key.now ++ c.args.value.now = ap (λ l. l ++ c.put.new.self.value) c.put.ensures.key ∙ ap (λ l. c.args.key.now ++ l) c.put.ensures.value in
    let short : length (record_of c.put.new.self) ≤ m.shape.node_size / 2 - 10 =
    subst (λ n. length (record_of c.put.new.self) ≤ n / 2 - 10) (sym reads.same.node_size) (omega (arith, ap length rec_is, length-append c.args.key.now c.args.value.now, c.requires.short)) in
    let edits = edits_read g.met.K.KeyOrder.key_length s.shape.depth s m reads tells small tree t (λ old new. AddsPair g.K.KeyOrder.cmp c.args.key.now c.put.new.self.value old new)
    (c.in_ok-add.ensures.adds (reads.same.tells ∙ tells) wide c.put.ensures.key short absent) in
    edits.others

pub returns-clause-roots : goal.returns-clause-roots
returns-clause-roots g c = λ tells.
    let s = g.N.NodeStore.state c.args.store.now in
    let m = g.N.NodeStore.state c.trace.new.store in
    let reads = c.trace.ensures.reads in
    let total : s.shape.total ≡ c.total_of-total.result = ap (λ h. h.total) (sym c.shape-shape.ensures) ∙ sym c.total_of-total.ensures in
    let small : s.shape.total ≤ 2 ^ 32 = omega (arith, total, c.total_of-total.type_inv) in
    let tree = c.requires.tree tells in
    let t = g.N.NodeStore.state c.add.new.store in
    let absent : HasKey g.K.KeyOrder.cmp c.args.key.now (pairs_of m) → ⊥ = λ has. c.in_ok-traced.ensures.absent tells c.if-traced.false (subst (λ l. HasKey g.K.KeyOrder.cmp c.args.key.now l) (read_pairs g.met.K.KeyOrder.key_length s.shape.depth s m reads tells small tree) has) in
    let wide : 3 * (g.K.KeyOrder.MAX + 8) ≤ node_room m.shape.node_size = subst (λ n. 3 * (g.K.KeyOrder.MAX + 8) ≤ node_room n) (sym reads.same.node_size) (c.requires.wide tells) in
    let rec_is : record_of c.put.new.self ≡ c.args.key.now ++ c.args.value.now = ap (λ l. l ++ c.put.new.self.value) c.put.ensures.key ∙ ap (λ l. c.args.key.now ++ l) c.put.ensures.value in
    let short : length (record_of c.put.new.self) ≤ m.shape.node_size / 2 - 10 =
    subst (λ n. length (record_of c.put.new.self) ≤ n / 2 - 10) (sym reads.same.node_size) (omega (arith, ap length rec_is, length-append c.args.key.now c.args.value.now, c.requires.short)) in
    bounds_read g.K.KeyOrder.MAX s.shape.depth s m t t.shape.depth t.shape.root reads tells
    (c.in_ok-add.ensures.roots (reads.same.tells ∙ tells) wide c.put.ensures.key short absent)

pub returns-then-traced-clause-roots : goal.returns-then-traced-clause-roots
returns-then-traced-clause-roots g c = λ tells.
    bounds_same g.K.KeyOrder.MAX (g.N.NodeStore.state c.args.store.now).shape.depth (g.N.NodeStore.state c.args.store.now) (g.N.NodeStore.state c.trace.new.store) c.trace.ensures.reads tells

pub returns-clause-thick : goal.returns-clause-thick
returns-clause-thick g c = λ tells done.
    let s = g.N.NodeStore.state c.args.store.now in
    let m = g.N.NodeStore.state c.trace.new.store in
    let reads = c.trace.ensures.reads in
    let total : s.shape.total ≡ c.total_of-total.result = ap (λ h. h.total) (sym c.shape-shape.ensures) ∙ sym c.total_of-total.ensures in
    let small : s.shape.total ≤ 2 ^ 32 = omega (arith, total, c.total_of-total.type_inv) in
    let tree = c.requires.tree tells in
    let t = g.N.NodeStore.state c.add.new.store in
    let absent : HasKey g.K.KeyOrder.cmp c.args.key.now (pairs_of m) → ⊥ = λ has. c.in_ok-traced.ensures.absent tells c.if-traced.false (subst (λ l. HasKey g.K.KeyOrder.cmp c.args.key.now l) (read_pairs g.met.K.KeyOrder.key_length s.shape.depth s m reads tells small tree) has) in
    let wide : 3 * (g.K.KeyOrder.MAX + 8) ≤ node_room m.shape.node_size = subst (λ n. 3 * (g.K.KeyOrder.MAX + 8) ≤ node_room n) (sym reads.same.node_size) (c.requires.wide tells) in
    let rec_is : record_of c.put.new.self ≡ c.args.key.now ++ c.args.value.now = ap (λ l. l ++ c.put.new.self.value) c.put.ensures.key ∙ ap (λ l. c.args.key.now ++ l) c.put.ensures.value in
    let short : length (record_of c.put.new.self) ≤ m.shape.node_size / 2 - 10 =
    subst (λ n. length (record_of c.put.new.self) ≤ n / 2 - 10) (sym reads.same.node_size) (omega (arith, ap length rec_is, length-append c.args.key.now c.args.value.now, c.requires.short)) in
    c.in_ok-add.ensures.thick (reads.same.tells ∙ tells) wide c.put.ensures.key short absent

pub returns-then-traced-clause-values : goal.returns-then-traced-clause-values
returns-then-traced-clause-values g c = λ tells had. All-same (λ (pair : Pair). g.K.KeyOrder.is_value pair.1) _ _ (returns-then-traced-clause-pairs g c tells) had

pub returns-clause-values : goal.returns-clause-values
returns-clause-values g c = λ tells had.
    values_added g.K.KeyOrder.is_value g.K.KeyOrder.cmp c.args.key.now c.args.value.now _ _ (returns-clause-pairs g c tells) (c.requires.value tells) had
