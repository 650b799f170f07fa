use Rattle.std.proofs.Common.{◌≡◌, ◌⊎◌, ◌≤◌, ◌+◌, ◌-◌, ◌*◌, ◌^◌, Bool, [], map, length, true, false, inl, inr, refl, sym, ◌∙◌, ap, subst, arith}
use Rattle.btree_node.specs.Levels.{pair_of}
use Rattle.btree_node.specs.Tree.{pairs_of}
use Rattle.btree_edit.specs.Desk.{HasKey}
use Rattle.btree_edit.specs.LevelEdit.{node_room}
use Rattle.btree_edit.specs.Rising.{leaves_edited, AreOfOneLength, CanClimb}
use Rattle.btree_edit.specs.Ended.{EndsAt}
use Rattle.btree_edit.specs.Way.{stop_at, LeadsWay}
use Rattle.btree_edit.specs.Sorted.{DropsPair}
use Rattle.btree_edit.proofs.PairEdits.{way_read, can_remove, drops, count_dropped, found_some}
use Rattle.btree_edit.proofs.Outcomes.{on_ok_then, bounds_read, read_tree, read_pairs, edits_read, edits_made, bare_pairs}
use Rattle.btree_edit.proofs.Repeated.{reads_none}
use Rattle.btree_edit.proofs.edits.drop_pair.Goals as goal

pub returns-then-not-has_way-clause-drops : goal.returns-then-not-has_way-clause-drops
returns-then-not-has_way-clause-drops g c = λ tells wide (k, inside, same).
    let s = g.N.NodeStore.state c.args.store.now in
    let none : pairs_of s ≡ [] = bare_pairs s (c.requires.tree tells) (c.requires.none tells c.if-not-has_way.true) in
    absurd (omega (arith, inside, ap length none))

pub returns-then-at-eq0-clause-drops : goal.returns-then-at-eq0-clause-drops
returns-then-at-eq0-clause-drops g c = λ tells wide has.
    let s = g.N.NodeStore.state c.args.store.now in
    let total : s.shape.total ≡ c.total_of-total.result = ap (λ h. h.total) (sym c.shape-shape.ensures) ∙ sym c.total_of-total.ensures in
    let small : s.shape.total ≤ 2 ^ 32 = omega (arith, total, c.total_of-total.type_inv) in
    let some = found_some g.K.KeyOrder.is_key g.K.KeyOrder.cmp g.met.K.KeyOrder.total g.met.K.KeyOrder.key_length g.K.KeyOrder.MAX s (c.requires.tree tells) small wide c.args.key.now c.args.desk.now.path
    (c.requires.way tells c.if-not-has_way.false) has in
    let deep : c.shape-shape.result.depth ≡ s.shape.depth = ap (λ h. h.depth) c.shape-shape.ensures in
    absurd (omega (arith, some, c.if-at-eq0.true, ap (λ d. (stop_at c.args.desk.now.path (d - 1)).at) deep))

pub rebuild-requires-clause-there : goal.rebuild-requires-clause-there
rebuild-requires-clause-there g c =
    subst (λ d. EndsAt (g.N.NodeStore.state c.args.store.now) d c.args.desk.now.node c.args.desk.now.path) (ap (λ h. h.depth) (sym c.shape-shape.ensures)) (c.requires.there c.if-not-has_way.false)

pub returns-clause-drops : goal.returns-clause-drops
returns-clause-drops g c = λ tells wide has.
    let s = g.N.NodeStore.state c.args.store.now in
    let m = g.N.NodeStore.state c.args.store.now in
    let t = g.N.NodeStore.state c.rebuild.new.store in
    let reads = (reads_none (g.N.NodeStore.state c.args.store.now)) in
    let path = c.args.desk.now.path in
    let total : s.shape.total ≡ c.total_of-total.result = ap (λ h. h.total) (sym c.shape-shape.ensures) ∙ sym c.total_of-total.ensures in
    let small : s.shape.total ≤ 2 ^ 32 = omega (arith, total, c.total_of-total.type_inv) in
    let small_m : m.shape.total ≤ 2 ^ 32 = omega (arith, small, reads.same.total) in
    let tree = c.requires.tree tells in
    let tree_m = read_tree g.met.K.KeyOrder.key_length 0 s m reads tells small tree in
    let same_pairs = read_pairs g.met.K.KeyOrder.key_length 0 s m reads tells small tree in
    let wide_m : 3 * (g.K.KeyOrder.MAX + 8) ≤ node_room m.shape.node_size = subst (λ n. 3 * (g.K.KeyOrder.MAX + 8) ≤ node_room n) (sym reads.same.node_size) wide in
    let nodes = reads.tree tells in
    let way : LeadsWay g.K.KeyOrder.cmp c.args.key.now m c.args.desk.now.path = way_read g.K.KeyOrder.cmp c.args.key.now s m c.args.desk.now.path reads.shape nodes.nodes (c.requires.way tells c.if-not-has_way.false) in
    let has_m : HasKey g.K.KeyOrder.cmp c.args.key.now (pairs_of m) = subst (λ l. HasKey g.K.KeyOrder.cmp c.args.key.now l) (sym same_pairs) has in
    let shape_is : c.shape-shape.result ≡ m.shape = c.shape-shape.ensures ∙ sym reads.shape in
    let deep : m.shape.depth ≡ c.shape-shape.result.depth = ap (λ h. h.depth) (sym shape_is) in
    let enough : m.shape.depth + 1 ≤ c.spare_of-spare.result ⊎ AreOfOneLength g.K.KeyOrder.is_key = by_fixed c.args.fixed refl in
    let can = can_remove g.K.KeyOrder.is_key g.K.KeyOrder.cmp g.met.K.KeyOrder.total g.met.K.KeyOrder.key_length g.K.KeyOrder.MAX m tree_m small_m wide_m c.args.key.now c.args.desk.now.path way has_m c.spare_of-spare.result enough in
    let many = count_dropped g.K.KeyOrder.is_key g.K.KeyOrder.cmp g.met.K.KeyOrder.total g.met.K.KeyOrder.key_length g.K.KeyOrder.MAX m tree_m small_m wide_m c.args.key.now c.args.desk.now.path way has_m in
    let can_is : CanClimb g.K.KeyOrder.is_key g.K.KeyOrder.cmp g.K.KeyOrder.MAX m c.args.desk.now.path ((stop_at c.args.desk.now.path (c.shape-shape.result.depth - 1)).at - 1) true [] c.spare_of-spare.result =
    subst (λ d. CanClimb g.K.KeyOrder.is_key g.K.KeyOrder.cmp g.K.KeyOrder.MAX m c.args.desk.now.path ((stop_at c.args.desk.now.path (d - 1)).at - 1) true [] c.spare_of-spare.result) deep can in
    let records : c.saturating_sub-records.result ≡ length (leaves_edited m c.args.desk.now.path ((stop_at c.args.desk.now.path (c.shape-shape.result.depth - 1)).at - 1) true []) =
    omega (arith, c.saturating_sub-records.ensures, ap (λ h. h.leaf_records) shape_is, many, ap (λ d. length (leaves_edited m c.args.desk.now.path ((stop_at c.args.desk.now.path (d - 1)).at - 1) true [])) deep) in
    let low : (c.spare_of-spare.result ≡ 0) ⊎ (c.shape-shape.result.depth ≤ 11) = low_by c.args.fixed refl in
    on_ok_then c.rebuild.result
    (λ makes. edits_read g.met.K.KeyOrder.key_length 0 s m reads tells small tree t (λ old new. DropsPair g.K.KeyOrder.cmp c.args.key.now old new)
    (edits_made m t (leaves_edited m c.args.desk.now.path ((stop_at c.args.desk.now.path (c.shape-shape.result.depth - 1)).at - 1) true []) (λ old new. DropsPair g.K.KeyOrder.cmp c.args.key.now old new)
    (λ is. drops g.K.KeyOrder.is_key g.K.KeyOrder.cmp g.met.K.KeyOrder.total g.met.K.KeyOrder.key_length g.K.KeyOrder.MAX m tree_m small_m wide_m c.args.key.now c.args.desk.now.path way has_m (pairs_of t)
    (is ∙ ap (λ d. map pair_of (leaves_edited m c.args.desk.now.path ((stop_at c.args.desk.now.path (d - 1)).at - 1) true [])) (sym deep))) makes))
    (c.rebuild.ensures.tree (reads.same.tells ∙ tells) shape_is can_is records low)
  where
    by_fixed : (b : Bool) → c.args.fixed ≡ b → (g.N.NodeStore.state c.args.store.now).shape.depth + 1 ≤ c.spare_of-spare.result ⊎ AreOfOneLength g.K.KeyOrder.is_key
    by_fixed true e = inr (λ x y p q. g.met.K.KeyOrder.one_length x y (sym c.requires.fixed ∙ e) p q)
    by_fixed false e = inl (omega (arith, c.spare_of-spare.ensures.some e, ap (λ h. h.depth) c.shape-shape.ensures, ap (λ h. h.depth) (reads_none (g.N.NodeStore.state c.args.store.now)).shape))

    low_by : (b : Bool) → c.args.fixed ≡ b → (c.spare_of-spare.result ≡ 0) ⊎ (c.shape-shape.result.depth ≤ 11)
    low_by true e = inl (c.spare_of-spare.ensures.none e)
    low_by false e = inr (omega (arith, c.requires.depth e, ap (λ h. h.depth) c.shape-shape.ensures))

pub returns-then-not-has_way-clause-roots : goal.returns-then-not-has_way-clause-roots
returns-then-not-has_way-clause-roots g c = λ tells wide (k, inside, same).
    let s = g.N.NodeStore.state c.args.store.now in
    let none : pairs_of s ≡ [] = bare_pairs s (c.requires.tree tells) (c.requires.none tells c.if-not-has_way.true) in
    absurd (omega (arith, inside, ap length none))

pub returns-then-at-eq0-clause-roots : goal.returns-then-at-eq0-clause-roots
returns-then-at-eq0-clause-roots g c = λ tells wide has.
    let s = g.N.NodeStore.state c.args.store.now in
    let total : s.shape.total ≡ c.total_of-total.result = ap (λ h. h.total) (sym c.shape-shape.ensures) ∙ sym c.total_of-total.ensures in
    let small : s.shape.total ≤ 2 ^ 32 = omega (arith, total, c.total_of-total.type_inv) in
    let some = found_some g.K.KeyOrder.is_key g.K.KeyOrder.cmp g.met.K.KeyOrder.total g.met.K.KeyOrder.key_length g.K.KeyOrder.MAX s (c.requires.tree tells) small wide c.args.key.now c.args.desk.now.path
    (c.requires.way tells c.if-not-has_way.false) has in
    let deep : c.shape-shape.result.depth ≡ s.shape.depth = ap (λ h. h.depth) c.shape-shape.ensures in
    absurd (omega (arith, some, c.if-at-eq0.true, ap (λ d. (stop_at c.args.desk.now.path (d - 1)).at) deep))

pub returns-clause-roots : goal.returns-clause-roots
returns-clause-roots g c = λ tells wide has.
    let s = g.N.NodeStore.state c.args.store.now in
    let m = g.N.NodeStore.state c.args.store.now in
    let t = g.N.NodeStore.state c.rebuild.new.store in
    let reads = (reads_none (g.N.NodeStore.state c.args.store.now)) in
    let path = c.args.desk.now.path in
    let total : s.shape.total ≡ c.total_of-total.result = ap (λ h. h.total) (sym c.shape-shape.ensures) ∙ sym c.total_of-total.ensures in
    let small : s.shape.total ≤ 2 ^ 32 = omega (arith, total, c.total_of-total.type_inv) in
    let small_m : m.shape.total ≤ 2 ^ 32 = omega (arith, small, reads.same.total) in
    let tree = c.requires.tree tells in
    let tree_m = read_tree g.met.K.KeyOrder.key_length 0 s m reads tells small tree in
    let same_pairs = read_pairs g.met.K.KeyOrder.key_length 0 s m reads tells small tree in
    let wide_m : 3 * (g.K.KeyOrder.MAX + 8) ≤ node_room m.shape.node_size = subst (λ n. 3 * (g.K.KeyOrder.MAX + 8) ≤ node_room n) (sym reads.same.node_size) wide in
    let nodes = reads.tree tells in
    let way : LeadsWay g.K.KeyOrder.cmp c.args.key.now m c.args.desk.now.path = way_read g.K.KeyOrder.cmp c.args.key.now s m c.args.desk.now.path reads.shape nodes.nodes (c.requires.way tells c.if-not-has_way.false) in
    let has_m : HasKey g.K.KeyOrder.cmp c.args.key.now (pairs_of m) = subst (λ l. HasKey g.K.KeyOrder.cmp c.args.key.now l) (sym same_pairs) has in
    let shape_is : c.shape-shape.result ≡ m.shape = c.shape-shape.ensures ∙ sym reads.shape in
    let deep : m.shape.depth ≡ c.shape-shape.result.depth = ap (λ h. h.depth) (sym shape_is) in
    let enough : m.shape.depth + 1 ≤ c.spare_of-spare.result ⊎ AreOfOneLength g.K.KeyOrder.is_key = by_fixed c.args.fixed refl in
    let can = can_remove g.K.KeyOrder.is_key g.K.KeyOrder.cmp g.met.K.KeyOrder.total g.met.K.KeyOrder.key_length g.K.KeyOrder.MAX m tree_m small_m wide_m c.args.key.now c.args.desk.now.path way has_m c.spare_of-spare.result enough in
    let many = count_dropped g.K.KeyOrder.is_key g.K.KeyOrder.cmp g.met.K.KeyOrder.total g.met.K.KeyOrder.key_length g.K.KeyOrder.MAX m tree_m small_m wide_m c.args.key.now c.args.desk.now.path way has_m in
    let can_is : CanClimb g.K.KeyOrder.is_key g.K.KeyOrder.cmp g.K.KeyOrder.MAX m c.args.desk.now.path ((stop_at c.args.desk.now.path (c.shape-shape.result.depth - 1)).at - 1) true [] c.spare_of-spare.result =
    subst (λ d. CanClimb g.K.KeyOrder.is_key g.K.KeyOrder.cmp g.K.KeyOrder.MAX m c.args.desk.now.path ((stop_at c.args.desk.now.path (d - 1)).at - 1) true [] c.spare_of-spare.result) deep can in
    let records : c.saturating_sub-records.result ≡ length (leaves_edited m c.args.desk.now.path ((stop_at c.args.desk.now.path (c.shape-shape.result.depth - 1)).at - 1) true []) =
    omega (arith, c.saturating_sub-records.ensures, ap (λ h. h.leaf_records) shape_is, many, ap (λ d. length (leaves_edited m c.args.desk.now.path ((stop_at c.args.desk.now.path (d - 1)).at - 1) true [])) deep) in
    let low : (c.spare_of-spare.result ≡ 0) ⊎ (c.shape-shape.result.depth ≤ 11) = low_by c.args.fixed refl in
    on_ok_then c.rebuild.result (bounds_read g.K.KeyOrder.MAX 0 s m t t.shape.depth t.shape.root reads tells)
    (c.rebuild.ensures.roots (reads.same.tells ∙ tells) shape_is can_is)
  where
    by_fixed : (b : Bool) → c.args.fixed ≡ b → (g.N.NodeStore.state c.args.store.now).shape.depth + 1 ≤ c.spare_of-spare.result ⊎ AreOfOneLength g.K.KeyOrder.is_key
    by_fixed true e = inr (λ x y p q. g.met.K.KeyOrder.one_length x y (sym c.requires.fixed ∙ e) p q)
    by_fixed false e = inl (omega (arith, c.spare_of-spare.ensures.some e, ap (λ h. h.depth) c.shape-shape.ensures, ap (λ h. h.depth) (reads_none (g.N.NodeStore.state c.args.store.now)).shape))

    low_by : (b : Bool) → c.args.fixed ≡ b → (c.spare_of-spare.result ≡ 0) ⊎ (c.shape-shape.result.depth ≤ 11)
    low_by true e = inl (c.spare_of-spare.ensures.none e)
    low_by false e = inr (omega (arith, c.requires.depth e, ap (λ h. h.depth) c.shape-shape.ensures))

pub returns-then-not-has_way-clause-thick : goal.returns-then-not-has_way-clause-thick
returns-then-not-has_way-clause-thick g c = λ tells wide (k, inside, same).
    let s = g.N.NodeStore.state c.args.store.now in
    let none : pairs_of s ≡ [] = bare_pairs s (c.requires.tree tells) (c.requires.none tells c.if-not-has_way.true) in
    absurd (omega (arith, inside, ap length none))

pub returns-then-at-eq0-clause-thick : goal.returns-then-at-eq0-clause-thick
returns-then-at-eq0-clause-thick g c = λ tells wide has.
    let s = g.N.NodeStore.state c.args.store.now in
    let total : s.shape.total ≡ c.total_of-total.result = ap (λ h. h.total) (sym c.shape-shape.ensures) ∙ sym c.total_of-total.ensures in
    let small : s.shape.total ≤ 2 ^ 32 = omega (arith, total, c.total_of-total.type_inv) in
    let some = found_some g.K.KeyOrder.is_key g.K.KeyOrder.cmp g.met.K.KeyOrder.total g.met.K.KeyOrder.key_length g.K.KeyOrder.MAX s (c.requires.tree tells) small wide c.args.key.now c.args.desk.now.path
    (c.requires.way tells c.if-not-has_way.false) has in
    let deep : c.shape-shape.result.depth ≡ s.shape.depth = ap (λ h. h.depth) c.shape-shape.ensures in
    absurd (omega (arith, some, c.if-at-eq0.true, ap (λ d. (stop_at c.args.desk.now.path (d - 1)).at) deep))

pub returns-clause-thick : goal.returns-clause-thick
returns-clause-thick g c = λ tells wide has.
    let s = g.N.NodeStore.state c.args.store.now in
    let m = g.N.NodeStore.state c.args.store.now in
    let t = g.N.NodeStore.state c.rebuild.new.store in
    let reads = (reads_none (g.N.NodeStore.state c.args.store.now)) in
    let path = c.args.desk.now.path in
    let total : s.shape.total ≡ c.total_of-total.result = ap (λ h. h.total) (sym c.shape-shape.ensures) ∙ sym c.total_of-total.ensures in
    let small : s.shape.total ≤ 2 ^ 32 = omega (arith, total, c.total_of-total.type_inv) in
    let small_m : m.shape.total ≤ 2 ^ 32 = omega (arith, small, reads.same.total) in
    let tree = c.requires.tree tells in
    let tree_m = read_tree g.met.K.KeyOrder.key_length 0 s m reads tells small tree in
    let same_pairs = read_pairs g.met.K.KeyOrder.key_length 0 s m reads tells small tree in
    let wide_m : 3 * (g.K.KeyOrder.MAX + 8) ≤ node_room m.shape.node_size = subst (λ n. 3 * (g.K.KeyOrder.MAX + 8) ≤ node_room n) (sym reads.same.node_size) wide in
    let nodes = reads.tree tells in
    let way : LeadsWay g.K.KeyOrder.cmp c.args.key.now m c.args.desk.now.path = way_read g.K.KeyOrder.cmp c.args.key.now s m c.args.desk.now.path reads.shape nodes.nodes (c.requires.way tells c.if-not-has_way.false) in
    let has_m : HasKey g.K.KeyOrder.cmp c.args.key.now (pairs_of m) = subst (λ l. HasKey g.K.KeyOrder.cmp c.args.key.now l) (sym same_pairs) has in
    let shape_is : c.shape-shape.result ≡ m.shape = c.shape-shape.ensures ∙ sym reads.shape in
    let deep : m.shape.depth ≡ c.shape-shape.result.depth = ap (λ h. h.depth) (sym shape_is) in
    let enough : m.shape.depth + 1 ≤ c.spare_of-spare.result ⊎ AreOfOneLength g.K.KeyOrder.is_key = by_fixed c.args.fixed refl in
    let can = can_remove g.K.KeyOrder.is_key g.K.KeyOrder.cmp g.met.K.KeyOrder.total g.met.K.KeyOrder.key_length g.K.KeyOrder.MAX m tree_m small_m wide_m c.args.key.now c.args.desk.now.path way has_m c.spare_of-spare.result enough in
    let many = count_dropped g.K.KeyOrder.is_key g.K.KeyOrder.cmp g.met.K.KeyOrder.total g.met.K.KeyOrder.key_length g.K.KeyOrder.MAX m tree_m small_m wide_m c.args.key.now c.args.desk.now.path way has_m in
    let can_is : CanClimb g.K.KeyOrder.is_key g.K.KeyOrder.cmp g.K.KeyOrder.MAX m c.args.desk.now.path ((stop_at c.args.desk.now.path (c.shape-shape.result.depth - 1)).at - 1) true [] c.spare_of-spare.result =
    subst (λ d. CanClimb g.K.KeyOrder.is_key g.K.KeyOrder.cmp g.K.KeyOrder.MAX m c.args.desk.now.path ((stop_at c.args.desk.now.path (d - 1)).at - 1) true [] c.spare_of-spare.result) deep can in
    let records : c.saturating_sub-records.result ≡ length (leaves_edited m c.args.desk.now.path ((stop_at c.args.desk.now.path (c.shape-shape.result.depth - 1)).at - 1) true []) =
    omega (arith, c.saturating_sub-records.ensures, ap (λ h. h.leaf_records) shape_is, many, ap (λ d. length (leaves_edited m c.args.desk.now.path ((stop_at c.args.desk.now.path (d - 1)).at - 1) true [])) deep) in
    let low : (c.spare_of-spare.result ≡ 0) ⊎ (c.shape-shape.result.depth ≤ 11) = low_by c.args.fixed refl in
    c.rebuild.ensures.thick (reads.same.tells ∙ tells) shape_is can_is
  where
    by_fixed : (b : Bool) → c.args.fixed ≡ b → (g.N.NodeStore.state c.args.store.now).shape.depth + 1 ≤ c.spare_of-spare.result ⊎ AreOfOneLength g.K.KeyOrder.is_key
    by_fixed true e = inr (λ x y p q. g.met.K.KeyOrder.one_length x y (sym c.requires.fixed ∙ e) p q)
    by_fixed false e = inl (omega (arith, c.spare_of-spare.ensures.some e, ap (λ h. h.depth) c.shape-shape.ensures, ap (λ h. h.depth) (reads_none (g.N.NodeStore.state c.args.store.now)).shape))

    low_by : (b : Bool) → c.args.fixed ≡ b → (c.spare_of-spare.result ≡ 0) ⊎ (c.shape-shape.result.depth ≤ 11)
    low_by true e = inl (c.spare_of-spare.ensures.none e)
    low_by false e = inr (omega (arith, c.requires.depth e, ap (λ h. h.depth) c.shape-shape.ensures))
