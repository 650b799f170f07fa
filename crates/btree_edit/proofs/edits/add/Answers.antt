use Rattle.std.proofs.Common.{◌≡◌, ◌≤◌, ◌<◌, ◌+◌, ◌-◌, ◌*◌, ◌/◌, ◌^◌, ◌++◌, [], ◌∷◌, map, length, false, inr, refl, sym, ◌∙◌, ap, subst, arith}
use Rattle.btree_node.specs.Node.{items}
use Rattle.btree_node.specs.Levels.{key_of, pair_of}
use Rattle.btree_node.specs.Tree.{pairs_of}
use Rattle.btree_edit.specs.Desk.{HasKey}
use Rattle.btree_edit.specs.Halves.{record_of}
use Rattle.btree_edit.specs.LevelEdit.{node_room, records_on}
use Rattle.btree_edit.specs.Rising.{leaves_edited, CanClimb, IsLeafRecord}
use Rattle.btree_edit.specs.Ended.{EndsAt}
use Rattle.btree_edit.specs.Way.{stop_at, LeadsWay}
use Rattle.btree_edit.specs.Sorted.{AddsPair}
use Rattle.btree_edit.proofs.Pairs.{key_of_joined}
use Rattle.btree_edit.proofs.PairEdits.{way_read, can_insert, adds, count_added, first_pair}
use Rattle.btree_edit.proofs.Outcomes.{on_ok_then, bounds_read, bounds_first, read_tree, read_pairs, edits_read, edits_made, bare_pairs, bare_of_none}
use Rattle.btree_edit.proofs.Repeated.{reads_none}
use Rattle.btree_edit.proofs.edits.add.Goals as goal

pub returns-then-shape-eq0-clause-adds : goal.returns-then-shape-eq0-clause-adds
returns-then-shape-eq0-clause-adds g c = λ tells wide key short absent.
    let s = g.N.NodeStore.state c.args.store.now in
    let t = g.N.NodeStore.state c.begin.new.store in
    let total : s.shape.total ≡ c.total_of-total.result = ap (λ h. h.total) (sym c.shape-shape.ensures) ∙ sym c.total_of-total.ensures in
    let small : s.shape.total ≤ 2 ^ 32 = omega (arith, total, c.total_of-total.type_inv) in
    let none : s.shape.depth ≡ 0 = ap (λ h. h.depth) (sym c.shape-shape.ensures) ∙ c.if-shape-eq0.true in
    let tree = c.requires.tree tells in
    let is_key = subst g.K.KeyOrder.is_key (sym key) c.requires.key in
    let key_is = key_of_joined c.args.desk.now.first.key (g.met.K.KeyOrder.key_length c.args.desk.now.first.key is_key) c.args.desk.now.first.value in
    let is_record : IsLeafRecord g.K.KeyOrder.is_key s (record_of c.args.desk.now.first) = record { key = subst g.K.KeyOrder.is_key (sym key_is) is_key; short = short } in
    on_ok_then c.begin.result
    (λ makes. edits_made s t (record_of c.args.desk.now.first ∷ []) (λ old new. AddsPair g.K.KeyOrder.cmp c.args.key.now c.args.desk.now.first.value old new)
    (λ is. first_pair g.K.KeyOrder.is_key g.K.KeyOrder.cmp g.met.K.KeyOrder.key_length c.args.key.now c.args.desk.now.first.key c.args.desk.now.first.value is_key key (pairs_of s) (pairs_of t)
    (bare_pairs s tree (λ some. absurd (omega arith))) is) makes)
    (c.begin.ensures.tree tells small (bare_of_none s tree none) is_record)

pub returns-then-not-has_way-clause-adds : goal.returns-then-not-has_way-clause-adds
returns-then-not-has_way-clause-adds g c = λ tells wide key short absent.
    let s = g.N.NodeStore.state c.args.store.now in
    let m = g.N.NodeStore.state c.args.store.now in
    let t = g.N.NodeStore.state c.restart_empty.new.store in
    let reads = reads_none (g.N.NodeStore.state c.args.store.now) in
    let total : s.shape.total ≡ c.total_of-total.result = ap (λ h. h.total) (sym c.shape-shape.ensures) ∙ sym c.total_of-total.ensures in
    let small : s.shape.total ≤ 2 ^ 32 = omega (arith, total, c.total_of-total.type_inv) in
    let some : 0 < s.shape.depth = omega (arith, ap (λ h. h.depth) c.shape-shape.ensures, c.if-shape-eq0.false) in
    let tree = c.requires.tree tells in
    let tree_m = read_tree g.met.K.KeyOrder.key_length 0 s m reads tells small tree in
    let same_pairs = read_pairs g.met.K.KeyOrder.key_length 0 s m reads tells small tree in
    let none = c.requires.none tells c.if-not-has_way.true in
    let nodes = reads.tree tells in
    let none_m : length (items (m.nodes m.shape.root)) ≡ 0 = ap (λ n. length (items (m.nodes n))) (ap (λ h. h.root) reads.shape) ∙ ap (λ l. length (items l)) (nodes.nodes s.shape.root) ∙ none some in
    let is_key = subst g.K.KeyOrder.is_key (sym key) c.requires.key in
    let key_is = key_of_joined c.args.desk.now.first.key (g.met.K.KeyOrder.key_length c.args.desk.now.first.key is_key) c.args.desk.now.first.value in
    let kept : record_of c.args.desk.now.first ≡ record_of c.args.desk.now.first = refl in
    let is_record : IsLeafRecord g.K.KeyOrder.is_key m (record_of c.args.desk.now.first) =
    record {
      key = subst (λ l. g.K.KeyOrder.is_key (key_of l)) (sym kept) (subst g.K.KeyOrder.is_key (sym key_is) is_key);
      short = subst (λ l. length l ≤ m.shape.node_size / 2 - 10) (sym kept) (subst (λ n. length (record_of c.args.desk.now.first) ≤ n / 2 - 10) (sym reads.same.node_size) short);
    } in
    on_ok_then c.restart_empty.result
    (λ makes. edits_read g.met.K.KeyOrder.key_length 0 s m reads tells small tree t (λ old new. AddsPair g.K.KeyOrder.cmp c.args.key.now c.args.desk.now.first.value old new)
    (edits_made m t (record_of c.args.desk.now.first ∷ []) (λ old new. AddsPair g.K.KeyOrder.cmp c.args.key.now c.args.desk.now.first.value old new)
    (λ is. first_pair g.K.KeyOrder.is_key g.K.KeyOrder.cmp g.met.K.KeyOrder.key_length c.args.key.now c.args.desk.now.first.key c.args.desk.now.first.value is_key key (pairs_of m) (pairs_of t)
    (same_pairs ∙ bare_pairs s tree none) (is ∙ ap (λ l. map pair_of (l ∷ [])) kept)) makes))
    (c.restart_empty.ensures.tree (reads.same.tells ∙ tells) tree_m (omega (arith, some, ap (λ h. h.depth) reads.shape)) none_m is_record)

pub rebuild-requires-clause-there : goal.rebuild-requires-clause-there
rebuild-requires-clause-there g c =
    subst (λ d. EndsAt (g.N.NodeStore.state c.args.store.now) d c.args.desk.now.node c.args.desk.now.path) (ap (λ h. h.depth) (sym c.shape-shape.ensures)) (c.requires.there c.if-not-has_way.false)

pub returns-clause-adds : goal.returns-clause-adds
returns-clause-adds g c = λ tells wide key short absent.
    let s = g.N.NodeStore.state c.args.store.now in
    let m = g.N.NodeStore.state c.args.store.now in
    let t = g.N.NodeStore.state c.rebuild.new.store in
    let reads = reads_none (g.N.NodeStore.state c.args.store.now) in
    let total : s.shape.total ≡ c.total_of-total.result = ap (λ h. h.total) (sym c.shape-shape.ensures) ∙ sym c.total_of-total.ensures in
    let small : s.shape.total ≤ 2 ^ 32 = omega (arith, total, c.total_of-total.type_inv) in
    let small_m : m.shape.total ≤ 2 ^ 32 = omega (arith, small, reads.same.total) in
    let tree = c.requires.tree tells in
    let tree_m = read_tree g.met.K.KeyOrder.key_length 0 s m reads tells small tree in
    let same_pairs = read_pairs g.met.K.KeyOrder.key_length 0 s m reads tells small tree in
    let wide_m : 3 * (g.K.KeyOrder.MAX + 8) ≤ node_room m.shape.node_size = subst (λ n. 3 * (g.K.KeyOrder.MAX + 8) ≤ node_room n) (sym reads.same.node_size) wide in
    let nodes = reads.tree tells in
    let way : LeadsWay g.K.KeyOrder.cmp c.args.key.now m c.args.desk.now.path = way_read g.K.KeyOrder.cmp c.args.key.now s m c.args.desk.now.path reads.shape nodes.nodes (c.requires.way tells c.if-not-has_way.false) in
    let absent_m : HasKey g.K.KeyOrder.cmp c.args.key.now (pairs_of m) → ⊥ = λ has. absent (subst (λ l. HasKey g.K.KeyOrder.cmp c.args.key.now l) same_pairs has) in
    let shape_is : c.shape-shape.result ≡ m.shape = c.shape-shape.ensures ∙ sym reads.shape in
    let deep : m.shape.depth ≡ c.shape-shape.result.depth = ap (λ h. h.depth) (sym shape_is) in
    let value = c.args.desk.now.first.value in
    let rec_is : c.args.key.now ++ c.args.desk.now.first.value ≡ record_of c.args.desk.now.first = ap (λ l. l ++ c.args.desk.now.first.value) (sym key) in
    let short_m : length (c.args.key.now ++ c.args.desk.now.first.value) ≤ m.shape.node_size / 2 - 10 =
    subst (λ l. length l ≤ m.shape.node_size / 2 - 10) (sym rec_is) (subst (λ n. length (record_of c.args.desk.now.first) ≤ n / 2 - 10) (sym reads.same.node_size) short) in
    let enough : m.shape.depth + 1 ≤ c.spare_of-spare.result = omega (arith, c.spare_of-spare.ensures.some refl, deep) in
    let can = can_insert g.K.KeyOrder.is_key g.K.KeyOrder.cmp g.met.K.KeyOrder.total g.met.K.KeyOrder.key_length g.K.KeyOrder.MAX m tree_m small_m wide_m c.args.key.now c.args.desk.now.path way absent_m c.requires.key c.args.desk.now.first.value short_m c.spare_of-spare.result enough in
    let many = count_added g.K.KeyOrder.is_key g.K.KeyOrder.cmp g.met.K.KeyOrder.total g.met.K.KeyOrder.key_length g.K.KeyOrder.MAX m tree_m small_m wide_m c.args.key.now c.args.desk.now.path way absent_m c.requires.key c.args.desk.now.first.value short_m in
    let put_is : (c.args.key.now ++ c.args.desk.now.first.value) ∷ [] ≡ records_on 1 c.args.desk.now = ap (λ l. l ∷ []) (rec_is ∙ refl) in
    let can_is : CanClimb g.K.KeyOrder.is_key g.K.KeyOrder.cmp g.K.KeyOrder.MAX m c.args.desk.now.path (stop_at c.args.desk.now.path (c.shape-shape.result.depth - 1)).at false (records_on 1 c.args.desk.now) c.spare_of-spare.result =
    subst (λ l. CanClimb g.K.KeyOrder.is_key g.K.KeyOrder.cmp g.K.KeyOrder.MAX m c.args.desk.now.path (stop_at c.args.desk.now.path (c.shape-shape.result.depth - 1)).at false l c.spare_of-spare.result) put_is
    (subst (λ d. CanClimb g.K.KeyOrder.is_key g.K.KeyOrder.cmp g.K.KeyOrder.MAX m c.args.desk.now.path (stop_at c.args.desk.now.path (d - 1)).at false ((c.args.key.now ++ c.args.desk.now.first.value) ∷ []) c.spare_of-spare.result) deep can) in
    let leaves_is : leaves_edited m c.args.desk.now.path (stop_at c.args.desk.now.path (m.shape.depth - 1)).at false ((c.args.key.now ++ c.args.desk.now.first.value) ∷ [])
    ≡ leaves_edited m c.args.desk.now.path (stop_at c.args.desk.now.path (c.shape-shape.result.depth - 1)).at false (records_on 1 c.args.desk.now) =
    ap (λ d. leaves_edited m c.args.desk.now.path (stop_at c.args.desk.now.path (d - 1)).at false ((c.args.key.now ++ c.args.desk.now.first.value) ∷ [])) deep
    ∙ ap (λ l. leaves_edited m c.args.desk.now.path (stop_at c.args.desk.now.path (c.shape-shape.result.depth - 1)).at false l) put_is in
    let records : c.saturating_add-records.result ≡ length (leaves_edited m c.args.desk.now.path (stop_at c.args.desk.now.path (c.shape-shape.result.depth - 1)).at false (records_on 1 c.args.desk.now)) =
    omega (arith, c.saturating_add-records.ensures, ap (λ h. h.leaf_records) shape_is, ap (λ h. h.leaf_records) c.shape-shape.ensures, many, ap length leaves_is, c.requires.records) in
    on_ok_then c.rebuild.result
    (λ makes. edits_read g.met.K.KeyOrder.key_length 0 s m reads tells small tree t (λ old new. AddsPair g.K.KeyOrder.cmp c.args.key.now c.args.desk.now.first.value old new)
    (edits_made m t (leaves_edited m c.args.desk.now.path (stop_at c.args.desk.now.path (c.shape-shape.result.depth - 1)).at false (records_on 1 c.args.desk.now)) (λ old new. AddsPair g.K.KeyOrder.cmp c.args.key.now c.args.desk.now.first.value old new)
    (λ is. adds g.K.KeyOrder.is_key g.K.KeyOrder.cmp g.met.K.KeyOrder.total g.met.K.KeyOrder.key_length g.K.KeyOrder.MAX m tree_m small_m wide_m c.args.key.now c.args.desk.now.path way absent_m c.requires.key c.args.desk.now.first.value short_m (pairs_of t)
    (is ∙ ap (λ l. map pair_of l) (sym leaves_is))) makes))
    (c.rebuild.ensures.tree (reads.same.tells ∙ tells) shape_is can_is records (inr (omega (arith, c.requires.depth, ap (λ h. h.depth) c.shape-shape.ensures))))

pub returns-then-shape-eq0-clause-roots : goal.returns-then-shape-eq0-clause-roots
returns-then-shape-eq0-clause-roots g c = λ tells wide key short absent.
    let s = g.N.NodeStore.state c.args.store.now in
    let t = g.N.NodeStore.state c.begin.new.store in
    on_ok_then c.begin.result (bounds_first g.K.KeyOrder.MAX s t t.shape.depth t.shape.root) c.begin.ensures.depth

pub returns-then-not-has_way-clause-roots : goal.returns-then-not-has_way-clause-roots
returns-then-not-has_way-clause-roots g c = λ tells wide key short absent.
    let s = g.N.NodeStore.state c.args.store.now in
    let m = g.N.NodeStore.state c.args.store.now in
    let t = g.N.NodeStore.state c.restart_empty.new.store in
    let reads = reads_none (g.N.NodeStore.state c.args.store.now) in
    let total : s.shape.total ≡ c.total_of-total.result = ap (λ h. h.total) (sym c.shape-shape.ensures) ∙ sym c.total_of-total.ensures in
    let small : s.shape.total ≤ 2 ^ 32 = omega (arith, total, c.total_of-total.type_inv) in
    let some : 0 < s.shape.depth = omega (arith, ap (λ h. h.depth) c.shape-shape.ensures, c.if-shape-eq0.false) in
    let tree = c.requires.tree tells in
    let tree_m = read_tree g.met.K.KeyOrder.key_length 0 s m reads tells small tree in
    let same_pairs = read_pairs g.met.K.KeyOrder.key_length 0 s m reads tells small tree in
    let none = c.requires.none tells c.if-not-has_way.true in
    let nodes = reads.tree tells in
    let none_m : length (items (m.nodes m.shape.root)) ≡ 0 = ap (λ n. length (items (m.nodes n))) (ap (λ h. h.root) reads.shape) ∙ ap (λ l. length (items l)) (nodes.nodes s.shape.root) ∙ none some in
    let is_key = subst g.K.KeyOrder.is_key (sym key) c.requires.key in
    let key_is = key_of_joined c.args.desk.now.first.key (g.met.K.KeyOrder.key_length c.args.desk.now.first.key is_key) c.args.desk.now.first.value in
    let kept : record_of c.args.desk.now.first ≡ record_of c.args.desk.now.first = refl in
    let is_record : IsLeafRecord g.K.KeyOrder.is_key m (record_of c.args.desk.now.first) =
    record {
      key = subst (λ l. g.K.KeyOrder.is_key (key_of l)) (sym kept) (subst g.K.KeyOrder.is_key (sym key_is) is_key);
      short = subst (λ l. length l ≤ m.shape.node_size / 2 - 10) (sym kept) (subst (λ n. length (record_of c.args.desk.now.first) ≤ n / 2 - 10) (sym reads.same.node_size) short);
    } in
    on_ok_then c.restart_empty.result (bounds_first g.K.KeyOrder.MAX s t t.shape.depth t.shape.root)
    (c.restart_empty.ensures.one (reads.same.tells ∙ tells) tree_m (omega (arith, some, ap (λ h. h.depth) reads.shape)) none_m)

pub returns-clause-roots : goal.returns-clause-roots
returns-clause-roots g c = λ tells wide key short absent.
    let s = g.N.NodeStore.state c.args.store.now in
    let m = g.N.NodeStore.state c.args.store.now in
    let t = g.N.NodeStore.state c.rebuild.new.store in
    let reads = reads_none (g.N.NodeStore.state c.args.store.now) in
    let total : s.shape.total ≡ c.total_of-total.result = ap (λ h. h.total) (sym c.shape-shape.ensures) ∙ sym c.total_of-total.ensures in
    let small : s.shape.total ≤ 2 ^ 32 = omega (arith, total, c.total_of-total.type_inv) in
    let small_m : m.shape.total ≤ 2 ^ 32 = omega (arith, small, reads.same.total) in
    let tree = c.requires.tree tells in
    let tree_m = read_tree g.met.K.KeyOrder.key_length 0 s m reads tells small tree in
    let same_pairs = read_pairs g.met.K.KeyOrder.key_length 0 s m reads tells small tree in
    let wide_m : 3 * (g.K.KeyOrder.MAX + 8) ≤ node_room m.shape.node_size = subst (λ n. 3 * (g.K.KeyOrder.MAX + 8) ≤ node_room n) (sym reads.same.node_size) wide in
    let nodes = reads.tree tells in
    let way : LeadsWay g.K.KeyOrder.cmp c.args.key.now m c.args.desk.now.path = way_read g.K.KeyOrder.cmp c.args.key.now s m c.args.desk.now.path reads.shape nodes.nodes (c.requires.way tells c.if-not-has_way.false) in
    let absent_m : HasKey g.K.KeyOrder.cmp c.args.key.now (pairs_of m) → ⊥ = λ has. absent (subst (λ l. HasKey g.K.KeyOrder.cmp c.args.key.now l) same_pairs has) in
    let shape_is : c.shape-shape.result ≡ m.shape = c.shape-shape.ensures ∙ sym reads.shape in
    let deep : m.shape.depth ≡ c.shape-shape.result.depth = ap (λ h. h.depth) (sym shape_is) in
    let value = c.args.desk.now.first.value in
    let rec_is : c.args.key.now ++ c.args.desk.now.first.value ≡ record_of c.args.desk.now.first = ap (λ l. l ++ c.args.desk.now.first.value) (sym key) in
    let short_m : length (c.args.key.now ++ c.args.desk.now.first.value) ≤ m.shape.node_size / 2 - 10 =
    subst (λ l. length l ≤ m.shape.node_size / 2 - 10) (sym rec_is) (subst (λ n. length (record_of c.args.desk.now.first) ≤ n / 2 - 10) (sym reads.same.node_size) short) in
    let enough : m.shape.depth + 1 ≤ c.spare_of-spare.result = omega (arith, c.spare_of-spare.ensures.some refl, deep) in
    let can = can_insert g.K.KeyOrder.is_key g.K.KeyOrder.cmp g.met.K.KeyOrder.total g.met.K.KeyOrder.key_length g.K.KeyOrder.MAX m tree_m small_m wide_m c.args.key.now c.args.desk.now.path way absent_m c.requires.key c.args.desk.now.first.value short_m c.spare_of-spare.result enough in
    let many = count_added g.K.KeyOrder.is_key g.K.KeyOrder.cmp g.met.K.KeyOrder.total g.met.K.KeyOrder.key_length g.K.KeyOrder.MAX m tree_m small_m wide_m c.args.key.now c.args.desk.now.path way absent_m c.requires.key c.args.desk.now.first.value short_m in
    let put_is : (c.args.key.now ++ c.args.desk.now.first.value) ∷ [] ≡ records_on 1 c.args.desk.now = ap (λ l. l ∷ []) (rec_is ∙ refl) in
    let can_is : CanClimb g.K.KeyOrder.is_key g.K.KeyOrder.cmp g.K.KeyOrder.MAX m c.args.desk.now.path (stop_at c.args.desk.now.path (c.shape-shape.result.depth - 1)).at false (records_on 1 c.args.desk.now) c.spare_of-spare.result =
    subst (λ l. CanClimb g.K.KeyOrder.is_key g.K.KeyOrder.cmp g.K.KeyOrder.MAX m c.args.desk.now.path (stop_at c.args.desk.now.path (c.shape-shape.result.depth - 1)).at false l c.spare_of-spare.result) put_is
    (subst (λ d. CanClimb g.K.KeyOrder.is_key g.K.KeyOrder.cmp g.K.KeyOrder.MAX m c.args.desk.now.path (stop_at c.args.desk.now.path (d - 1)).at false ((c.args.key.now ++ c.args.desk.now.first.value) ∷ []) c.spare_of-spare.result) deep can) in
    let leaves_is : leaves_edited m c.args.desk.now.path (stop_at c.args.desk.now.path (m.shape.depth - 1)).at false ((c.args.key.now ++ c.args.desk.now.first.value) ∷ [])
    ≡ leaves_edited m c.args.desk.now.path (stop_at c.args.desk.now.path (c.shape-shape.result.depth - 1)).at false (records_on 1 c.args.desk.now) =
    ap (λ d. leaves_edited m c.args.desk.now.path (stop_at c.args.desk.now.path (d - 1)).at false ((c.args.key.now ++ c.args.desk.now.first.value) ∷ [])) deep
    ∙ ap (λ l. leaves_edited m c.args.desk.now.path (stop_at c.args.desk.now.path (c.shape-shape.result.depth - 1)).at false l) put_is in
    let records : c.saturating_add-records.result ≡ length (leaves_edited m c.args.desk.now.path (stop_at c.args.desk.now.path (c.shape-shape.result.depth - 1)).at false (records_on 1 c.args.desk.now)) =
    omega (arith, c.saturating_add-records.ensures, ap (λ h. h.leaf_records) shape_is, ap (λ h. h.leaf_records) c.shape-shape.ensures, many, ap length leaves_is, c.requires.records) in
    on_ok_then c.rebuild.result (bounds_read g.K.KeyOrder.MAX 0 s m t t.shape.depth t.shape.root reads tells)
    (c.rebuild.ensures.roots (reads.same.tells ∙ tells) shape_is can_is)

pub returns-then-shape-eq0-clause-thick : goal.returns-then-shape-eq0-clause-thick
returns-then-shape-eq0-clause-thick g c = λ tells wide key short absent.
    let s = g.N.NodeStore.state c.args.store.now in
    let t = g.N.NodeStore.state c.begin.new.store in
    on_ok_then c.begin.result (λ one deep. absurd (omega (arith, one, deep))) c.begin.ensures.depth

pub returns-then-not-has_way-clause-thick : goal.returns-then-not-has_way-clause-thick
returns-then-not-has_way-clause-thick g c = λ tells wide key short absent.
    let s = g.N.NodeStore.state c.args.store.now in
    let m = g.N.NodeStore.state c.args.store.now in
    let t = g.N.NodeStore.state c.restart_empty.new.store in
    let reads = reads_none (g.N.NodeStore.state c.args.store.now) in
    let total : s.shape.total ≡ c.total_of-total.result = ap (λ h. h.total) (sym c.shape-shape.ensures) ∙ sym c.total_of-total.ensures in
    let small : s.shape.total ≤ 2 ^ 32 = omega (arith, total, c.total_of-total.type_inv) in
    let some : 0 < s.shape.depth = omega (arith, ap (λ h. h.depth) c.shape-shape.ensures, c.if-shape-eq0.false) in
    let tree = c.requires.tree tells in
    let tree_m = read_tree g.met.K.KeyOrder.key_length 0 s m reads tells small tree in
    let same_pairs = read_pairs g.met.K.KeyOrder.key_length 0 s m reads tells small tree in
    let none = c.requires.none tells c.if-not-has_way.true in
    let nodes = reads.tree tells in
    let none_m : length (items (m.nodes m.shape.root)) ≡ 0 = ap (λ n. length (items (m.nodes n))) (ap (λ h. h.root) reads.shape) ∙ ap (λ l. length (items l)) (nodes.nodes s.shape.root) ∙ none some in
    let is_key = subst g.K.KeyOrder.is_key (sym key) c.requires.key in
    let key_is = key_of_joined c.args.desk.now.first.key (g.met.K.KeyOrder.key_length c.args.desk.now.first.key is_key) c.args.desk.now.first.value in
    let kept : record_of c.args.desk.now.first ≡ record_of c.args.desk.now.first = refl in
    let is_record : IsLeafRecord g.K.KeyOrder.is_key m (record_of c.args.desk.now.first) =
    record {
      key = subst (λ l. g.K.KeyOrder.is_key (key_of l)) (sym kept) (subst g.K.KeyOrder.is_key (sym key_is) is_key);
      short = subst (λ l. length l ≤ m.shape.node_size / 2 - 10) (sym kept) (subst (λ n. length (record_of c.args.desk.now.first) ≤ n / 2 - 10) (sym reads.same.node_size) short);
    } in
    on_ok_then c.restart_empty.result (λ one deep. absurd (omega (arith, one, deep)))
    (c.restart_empty.ensures.one (reads.same.tells ∙ tells) tree_m (omega (arith, some, ap (λ h. h.depth) reads.shape)) none_m)

pub returns-clause-thick : goal.returns-clause-thick
returns-clause-thick g c = λ tells wide key short absent.
    let s = g.N.NodeStore.state c.args.store.now in
    let m = g.N.NodeStore.state c.args.store.now in
    let t = g.N.NodeStore.state c.rebuild.new.store in
    let reads = reads_none (g.N.NodeStore.state c.args.store.now) in
    let total : s.shape.total ≡ c.total_of-total.result = ap (λ h. h.total) (sym c.shape-shape.ensures) ∙ sym c.total_of-total.ensures in
    let small : s.shape.total ≤ 2 ^ 32 = omega (arith, total, c.total_of-total.type_inv) in
    let small_m : m.shape.total ≤ 2 ^ 32 = omega (arith, small, reads.same.total) in
    let tree = c.requires.tree tells in
    let tree_m = read_tree g.met.K.KeyOrder.key_length 0 s m reads tells small tree in
    let same_pairs = read_pairs g.met.K.KeyOrder.key_length 0 s m reads tells small tree in
    let wide_m : 3 * (g.K.KeyOrder.MAX + 8) ≤ node_room m.shape.node_size = subst (λ n. 3 * (g.K.KeyOrder.MAX + 8) ≤ node_room n) (sym reads.same.node_size) wide in
    let nodes = reads.tree tells in
    let way : LeadsWay g.K.KeyOrder.cmp c.args.key.now m c.args.desk.now.path = way_read g.K.KeyOrder.cmp c.args.key.now s m c.args.desk.now.path reads.shape nodes.nodes (c.requires.way tells c.if-not-has_way.false) in
    let absent_m : HasKey g.K.KeyOrder.cmp c.args.key.now (pairs_of m) → ⊥ = λ has. absent (subst (λ l. HasKey g.K.KeyOrder.cmp c.args.key.now l) same_pairs has) in
    let shape_is : c.shape-shape.result ≡ m.shape = c.shape-shape.ensures ∙ sym reads.shape in
    let deep : m.shape.depth ≡ c.shape-shape.result.depth = ap (λ h. h.depth) (sym shape_is) in
    let value = c.args.desk.now.first.value in
    let rec_is : c.args.key.now ++ c.args.desk.now.first.value ≡ record_of c.args.desk.now.first = ap (λ l. l ++ c.args.desk.now.first.value) (sym key) in
    let short_m : length (c.args.key.now ++ c.args.desk.now.first.value) ≤ m.shape.node_size / 2 - 10 =
    subst (λ l. length l ≤ m.shape.node_size / 2 - 10) (sym rec_is) (subst (λ n. length (record_of c.args.desk.now.first) ≤ n / 2 - 10) (sym reads.same.node_size) short) in
    let enough : m.shape.depth + 1 ≤ c.spare_of-spare.result = omega (arith, c.spare_of-spare.ensures.some refl, deep) in
    let can = can_insert g.K.KeyOrder.is_key g.K.KeyOrder.cmp g.met.K.KeyOrder.total g.met.K.KeyOrder.key_length g.K.KeyOrder.MAX m tree_m small_m wide_m c.args.key.now c.args.desk.now.path way absent_m c.requires.key c.args.desk.now.first.value short_m c.spare_of-spare.result enough in
    let many = count_added g.K.KeyOrder.is_key g.K.KeyOrder.cmp g.met.K.KeyOrder.total g.met.K.KeyOrder.key_length g.K.KeyOrder.MAX m tree_m small_m wide_m c.args.key.now c.args.desk.now.path way absent_m c.requires.key c.args.desk.now.first.value short_m in
    let put_is : (c.args.key.now ++ c.args.desk.now.first.value) ∷ [] ≡ records_on 1 c.args.desk.now = ap (λ l. l ∷ []) (rec_is ∙ refl) in
    let can_is : CanClimb g.K.KeyOrder.is_key g.K.KeyOrder.cmp g.K.KeyOrder.MAX m c.args.desk.now.path (stop_at c.args.desk.now.path (c.shape-shape.result.depth - 1)).at false (records_on 1 c.args.desk.now) c.spare_of-spare.result =
    subst (λ l. CanClimb g.K.KeyOrder.is_key g.K.KeyOrder.cmp g.K.KeyOrder.MAX m c.args.desk.now.path (stop_at c.args.desk.now.path (c.shape-shape.result.depth - 1)).at false l c.spare_of-spare.result) put_is
    (subst (λ d. CanClimb g.K.KeyOrder.is_key g.K.KeyOrder.cmp g.K.KeyOrder.MAX m c.args.desk.now.path (stop_at c.args.desk.now.path (d - 1)).at false ((c.args.key.now ++ c.args.desk.now.first.value) ∷ []) c.spare_of-spare.result) deep can) in
    let leaves_is : leaves_edited m c.args.desk.now.path (stop_at c.args.desk.now.path (m.shape.depth - 1)).at false ((c.args.key.now ++ c.args.desk.now.first.value) ∷ [])
    ≡ leaves_edited m c.args.desk.now.path (stop_at c.args.desk.now.path (c.shape-shape.result.depth - 1)).at false (records_on 1 c.args.desk.now) =
    ap (λ d. leaves_edited m c.args.desk.now.path (stop_at c.args.desk.now.path (d - 1)).at false ((c.args.key.now ++ c.args.desk.now.first.value) ∷ [])) deep
    ∙ ap (λ l. leaves_edited m c.args.desk.now.path (stop_at c.args.desk.now.path (c.shape-shape.result.depth - 1)).at false l) put_is in
    let records : c.saturating_add-records.result ≡ length (leaves_edited m c.args.desk.now.path (stop_at c.args.desk.now.path (c.shape-shape.result.depth - 1)).at false (records_on 1 c.args.desk.now)) =
    omega (arith, c.saturating_add-records.ensures, ap (λ h. h.leaf_records) shape_is, ap (λ h. h.leaf_records) c.shape-shape.ensures, many, ap length leaves_is, c.requires.records) in
    c.rebuild.ensures.thick (reads.same.tells ∙ tells) shape_is can_is
