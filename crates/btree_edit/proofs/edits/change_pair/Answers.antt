use Rattle.std.proofs.Common.{◌≡◌, ◌≤◌, ◌<◌, ◌+◌, ◌-◌, ◌*◌, ◌/◌, ◌^◌, ◌++◌, ℕ, Equal, get_or, List, [], ◌∷◌, map, length, true, inr, refl, sym, ◌∙◌, ap, subst, arith}
use Rattle.btree_node.specs.Levels.{Pair, pair_of}
use Rattle.btree_node.specs.Tree.{pairs_of}
use Rattle.btree_edit.specs.Desk.{HasKey}
use Rattle.btree_edit.specs.LevelEdit.{node_room, records_on}
use Rattle.btree_edit.specs.Rising.{leaves_edited, CanClimb}
use Rattle.btree_edit.specs.Ended.{EndsAt}
use Rattle.btree_edit.specs.Way.{stop_at, LeadsWay}
use Rattle.btree_edit.specs.Sorted.{ChangesPair, HoldsKeyOf}
use Rattle.btree_edit.specs.Halves.{record_of}
use Rattle.btree_edit.proofs.PairEdits.{way_read, can_change, changes, count_changed, found_some, own_key_is}
use Rattle.btree_edit.proofs.Outcomes.{on_ok_then, bounds_read, read_tree, read_pairs, edits_read, edits_made, bare_pairs}
use Rattle.btree_edit.proofs.edits.change_pair.Goals as goal

pub find_path-requires-clause-tree : goal.find_path-requires-clause-tree
find_path-requires-clause-tree g c = c.requires.tree

pub returns-then-not-branch-clause-changes : goal.returns-then-not-branch-clause-changes
returns-then-not-branch-clause-changes g c = λ tells wide (k, inside, same, own) short.
    let s = g.N.NodeStore.state c.args.store.now in
    let none : pairs_of s ≡ [] = bare_pairs s (c.requires.tree tells) (c.in_ok-find_path.ensures.none tells c.if-not-branch.true) in
    absurd (omega (arith, inside, ap length none))

pub returns-then-at-eq0-clause-changes : goal.returns-then-at-eq0-clause-changes
returns-then-at-eq0-clause-changes g c = λ tells wide holds short.
    let has : HasKey g.K.KeyOrder.cmp c.args.key.now (pairs_of (g.N.NodeStore.state c.args.store.now)) = (holds.0, holds.1, holds.2) in
    let s = g.N.NodeStore.state c.args.store.now in
    let total : s.shape.total ≡ c.total_of-total.result = ap (λ h. h.total) (sym c.shape-shape.ensures) ∙ sym c.total_of-total.ensures in
    let small : s.shape.total ≤ 2 ^ 32 = omega (arith, total, c.total_of-total.type_inv) in
    let some = found_some g.K.KeyOrder.is_key g.K.KeyOrder.cmp g.met.K.KeyOrder.total g.met.K.KeyOrder.key_length g.K.KeyOrder.MAX s (c.requires.tree tells) small wide c.args.key.now c.find_path.new.desk.path
    (c.in_ok-find_path.ensures.way tells c.if-not-branch.false) has in
    let deep : c.shape-shape.result.depth ≡ s.shape.depth = ap (λ h. h.depth) c.shape-shape.ensures in
    absurd (omega (arith, some, c.if-at-eq0.true, ap (λ d. (stop_at c.find_path.new.desk.path (d - 1)).at) deep))

pub rebuild-requires-clause-there : goal.rebuild-requires-clause-there
rebuild-requires-clause-there g c =
    subst (λ d. EndsAt (g.N.NodeStore.state c.find_path.new.store) d c.find_path.new.desk.node c.find_path.new.desk.path) (ap (λ h. h.depth) (c.find_path.ensures.reads.shape ∙ sym c.shape-shape.ensures))
    (c.in_ok-find_path.ensures.there c.if-not-branch.false)

pub returns-clause-changes : goal.returns-clause-changes
returns-clause-changes g c = λ tells wide holds short.
    let s = g.N.NodeStore.state c.args.store.now in
    let m = g.N.NodeStore.state c.find_path.new.store in
    let t = g.N.NodeStore.state c.rebuild.new.store in
    let reads = c.find_path.ensures.reads in
    let total : s.shape.total ≡ c.total_of-total.result = ap (λ h. h.total) (sym c.shape-shape.ensures) ∙ sym c.total_of-total.ensures in
    let small : s.shape.total ≤ 2 ^ 32 = omega (arith, total, c.total_of-total.type_inv) in
    let small_m : m.shape.total ≤ 2 ^ 32 = omega (arith, small, reads.same.total) in
    let tree = c.requires.tree tells in
    let tree_m = read_tree g.met.K.KeyOrder.key_length s.shape.depth s m reads tells small tree in
    let same_pairs = read_pairs g.met.K.KeyOrder.key_length s.shape.depth s m reads tells small tree in
    let wide_m : 3 * (g.K.KeyOrder.MAX + 8) ≤ node_room m.shape.node_size = subst (λ n. 3 * (g.K.KeyOrder.MAX + 8) ≤ node_room n) (sym reads.same.node_size) wide in
    let nodes = reads.tree tells in
    let way : LeadsWay g.K.KeyOrder.cmp c.args.key.now m c.find_path.new.desk.path = way_read g.K.KeyOrder.cmp c.args.key.now s m c.find_path.new.desk.path reads.shape nodes.nodes (c.in_ok-find_path.ensures.way tells c.if-not-branch.false) in
    let holds_m : HoldsKeyOf g.K.KeyOrder.cmp c.args.key.now m c.args.desk.now.first.key =
    subst (λ (l : List Pair). (k : ℕ) × (k < length l) × (g.K.KeyOrder.cmp (get_or l k ([], [])).0 c.args.key.now ≡ Equal) × (c.args.desk.now.first.key ≡ (get_or l k ([], [])).0)) (sym same_pairs) holds in
    let has_m : HasKey g.K.KeyOrder.cmp c.args.key.now (pairs_of m) = (holds_m.0, holds_m.1, holds_m.2) in
    let own_is = own_key_is g.K.KeyOrder.is_key g.K.KeyOrder.cmp g.met.K.KeyOrder.total g.met.K.KeyOrder.key_length g.K.KeyOrder.MAX m tree_m small_m wide_m c.args.key.now c.find_path.new.desk.path way has_m c.args.desk.now.first.key holds_m in
    let short_m : length (c.args.desk.now.first.key ++ c.args.desk.now.first.value) ≤ m.shape.node_size / 2 - 10 = subst (λ n. length (record_of c.args.desk.now.first) ≤ n / 2 - 10) (sym reads.same.node_size) short in
    let shape_is : c.shape-shape.result ≡ m.shape = c.shape-shape.ensures ∙ sym reads.shape in
    let deep : m.shape.depth ≡ c.shape-shape.result.depth = ap (λ h. h.depth) (sym shape_is) in
    let enough : m.shape.depth + 1 ≤ c.spare_of-spare.result = omega (arith, c.spare_of-spare.ensures.some refl, deep) in
    let can = can_change g.K.KeyOrder.is_key g.K.KeyOrder.cmp g.met.K.KeyOrder.total g.met.K.KeyOrder.key_length g.K.KeyOrder.MAX m tree_m small_m wide_m c.args.key.now c.find_path.new.desk.path way has_m c.args.desk.now.first.key c.args.desk.now.first.value own_is short_m c.spare_of-spare.result enough in
    let many = count_changed g.K.KeyOrder.is_key g.K.KeyOrder.cmp g.met.K.KeyOrder.total g.met.K.KeyOrder.key_length g.K.KeyOrder.MAX m tree_m small_m wide_m c.args.key.now c.find_path.new.desk.path way has_m c.args.desk.now.first.key c.args.desk.now.first.value own_is short_m in
    let put_is : record_of c.args.desk.now.first ∷ [] ≡ records_on 1 c.find_path.new.desk = ap (λ l. l ∷ []) (sym (ap record_of c.find_path.ensures.first)) in
    let can_is : CanClimb g.K.KeyOrder.is_key g.K.KeyOrder.cmp g.K.KeyOrder.MAX m c.find_path.new.desk.path ((stop_at c.find_path.new.desk.path (c.shape-shape.result.depth - 1)).at - 1) true (records_on 1 c.find_path.new.desk) c.spare_of-spare.result =
    subst (λ l. CanClimb g.K.KeyOrder.is_key g.K.KeyOrder.cmp g.K.KeyOrder.MAX m c.find_path.new.desk.path ((stop_at c.find_path.new.desk.path (c.shape-shape.result.depth - 1)).at - 1) true l c.spare_of-spare.result) put_is
    (subst (λ d. CanClimb g.K.KeyOrder.is_key g.K.KeyOrder.cmp g.K.KeyOrder.MAX m c.find_path.new.desk.path ((stop_at c.find_path.new.desk.path (d - 1)).at - 1) true (record_of c.args.desk.now.first ∷ []) c.spare_of-spare.result) deep can) in
    let leaves_is : leaves_edited m c.find_path.new.desk.path ((stop_at c.find_path.new.desk.path (m.shape.depth - 1)).at - 1) true (record_of c.args.desk.now.first ∷ [])
    ≡ leaves_edited m c.find_path.new.desk.path ((stop_at c.find_path.new.desk.path (c.shape-shape.result.depth - 1)).at - 1) true (records_on 1 c.find_path.new.desk) =
    ap (λ d. leaves_edited m c.find_path.new.desk.path ((stop_at c.find_path.new.desk.path (d - 1)).at - 1) true (record_of c.args.desk.now.first ∷ [])) deep
    ∙ ap (λ l. leaves_edited m c.find_path.new.desk.path ((stop_at c.find_path.new.desk.path (c.shape-shape.result.depth - 1)).at - 1) true l) put_is in
    let records : c.shape-shape.result.leaf_records ≡ length (leaves_edited m c.find_path.new.desk.path ((stop_at c.find_path.new.desk.path (c.shape-shape.result.depth - 1)).at - 1) true (records_on 1 c.find_path.new.desk)) =
    ap (λ h. h.leaf_records) shape_is ∙ sym many ∙ ap length leaves_is in
    on_ok_then c.rebuild.result
    (λ makes. edits_read g.met.K.KeyOrder.key_length s.shape.depth s m reads tells small tree t (λ old new. ChangesPair g.K.KeyOrder.cmp c.args.key.now c.args.desk.now.first.value old new)
    (edits_made m t (leaves_edited m c.find_path.new.desk.path ((stop_at c.find_path.new.desk.path (c.shape-shape.result.depth - 1)).at - 1) true (records_on 1 c.find_path.new.desk)) (λ old new. ChangesPair g.K.KeyOrder.cmp c.args.key.now c.args.desk.now.first.value old new)
    (λ is. changes g.K.KeyOrder.is_key g.K.KeyOrder.cmp g.met.K.KeyOrder.total g.met.K.KeyOrder.key_length g.K.KeyOrder.MAX m tree_m small_m wide_m c.args.key.now c.find_path.new.desk.path way has_m c.args.desk.now.first.key c.args.desk.now.first.value own_is short_m (pairs_of t)
    (is ∙ ap (λ l. map pair_of l) (sym leaves_is))) makes))
    (c.rebuild.ensures.tree (reads.same.tells ∙ tells) shape_is can_is records (inr (omega (arith, c.requires.depth, ap (λ h. h.depth) c.shape-shape.ensures))))

pub returns-then-not-branch-clause-roots : goal.returns-then-not-branch-clause-roots
returns-then-not-branch-clause-roots g c = λ tells wide (k, inside, same, own) short.
    let s = g.N.NodeStore.state c.args.store.now in
    let none : pairs_of s ≡ [] = bare_pairs s (c.requires.tree tells) (c.in_ok-find_path.ensures.none tells c.if-not-branch.true) in
    absurd (omega (arith, inside, ap length none))

pub returns-then-at-eq0-clause-roots : goal.returns-then-at-eq0-clause-roots
returns-then-at-eq0-clause-roots g c = λ tells wide holds short.
    let has : HasKey g.K.KeyOrder.cmp c.args.key.now (pairs_of (g.N.NodeStore.state c.args.store.now)) = (holds.0, holds.1, holds.2) in
    let s = g.N.NodeStore.state c.args.store.now in
    let total : s.shape.total ≡ c.total_of-total.result = ap (λ h. h.total) (sym c.shape-shape.ensures) ∙ sym c.total_of-total.ensures in
    let small : s.shape.total ≤ 2 ^ 32 = omega (arith, total, c.total_of-total.type_inv) in
    let some = found_some g.K.KeyOrder.is_key g.K.KeyOrder.cmp g.met.K.KeyOrder.total g.met.K.KeyOrder.key_length g.K.KeyOrder.MAX s (c.requires.tree tells) small wide c.args.key.now c.find_path.new.desk.path
    (c.in_ok-find_path.ensures.way tells c.if-not-branch.false) has in
    let deep : c.shape-shape.result.depth ≡ s.shape.depth = ap (λ h. h.depth) c.shape-shape.ensures in
    absurd (omega (arith, some, c.if-at-eq0.true, ap (λ d. (stop_at c.find_path.new.desk.path (d - 1)).at) deep))

pub returns-clause-roots : goal.returns-clause-roots
returns-clause-roots g c = λ tells wide holds short.
    let s = g.N.NodeStore.state c.args.store.now in
    let m = g.N.NodeStore.state c.find_path.new.store in
    let t = g.N.NodeStore.state c.rebuild.new.store in
    let reads = c.find_path.ensures.reads in
    let total : s.shape.total ≡ c.total_of-total.result = ap (λ h. h.total) (sym c.shape-shape.ensures) ∙ sym c.total_of-total.ensures in
    let small : s.shape.total ≤ 2 ^ 32 = omega (arith, total, c.total_of-total.type_inv) in
    let small_m : m.shape.total ≤ 2 ^ 32 = omega (arith, small, reads.same.total) in
    let tree = c.requires.tree tells in
    let tree_m = read_tree g.met.K.KeyOrder.key_length s.shape.depth s m reads tells small tree in
    let same_pairs = read_pairs g.met.K.KeyOrder.key_length s.shape.depth s m reads tells small tree in
    let wide_m : 3 * (g.K.KeyOrder.MAX + 8) ≤ node_room m.shape.node_size = subst (λ n. 3 * (g.K.KeyOrder.MAX + 8) ≤ node_room n) (sym reads.same.node_size) wide in
    let nodes = reads.tree tells in
    let way : LeadsWay g.K.KeyOrder.cmp c.args.key.now m c.find_path.new.desk.path = way_read g.K.KeyOrder.cmp c.args.key.now s m c.find_path.new.desk.path reads.shape nodes.nodes (c.in_ok-find_path.ensures.way tells c.if-not-branch.false) in
    let holds_m : HoldsKeyOf g.K.KeyOrder.cmp c.args.key.now m c.args.desk.now.first.key =
    subst (λ (l : List Pair). (k : ℕ) × (k < length l) × (g.K.KeyOrder.cmp (get_or l k ([], [])).0 c.args.key.now ≡ Equal) × (c.args.desk.now.first.key ≡ (get_or l k ([], [])).0)) (sym same_pairs) holds in
    let has_m : HasKey g.K.KeyOrder.cmp c.args.key.now (pairs_of m) = (holds_m.0, holds_m.1, holds_m.2) in
    let own_is = own_key_is g.K.KeyOrder.is_key g.K.KeyOrder.cmp g.met.K.KeyOrder.total g.met.K.KeyOrder.key_length g.K.KeyOrder.MAX m tree_m small_m wide_m c.args.key.now c.find_path.new.desk.path way has_m c.args.desk.now.first.key holds_m in
    let short_m : length (c.args.desk.now.first.key ++ c.args.desk.now.first.value) ≤ m.shape.node_size / 2 - 10 = subst (λ n. length (record_of c.args.desk.now.first) ≤ n / 2 - 10) (sym reads.same.node_size) short in
    let shape_is : c.shape-shape.result ≡ m.shape = c.shape-shape.ensures ∙ sym reads.shape in
    let deep : m.shape.depth ≡ c.shape-shape.result.depth = ap (λ h. h.depth) (sym shape_is) in
    let enough : m.shape.depth + 1 ≤ c.spare_of-spare.result = omega (arith, c.spare_of-spare.ensures.some refl, deep) in
    let can = can_change g.K.KeyOrder.is_key g.K.KeyOrder.cmp g.met.K.KeyOrder.total g.met.K.KeyOrder.key_length g.K.KeyOrder.MAX m tree_m small_m wide_m c.args.key.now c.find_path.new.desk.path way has_m c.args.desk.now.first.key c.args.desk.now.first.value own_is short_m c.spare_of-spare.result enough in
    let many = count_changed g.K.KeyOrder.is_key g.K.KeyOrder.cmp g.met.K.KeyOrder.total g.met.K.KeyOrder.key_length g.K.KeyOrder.MAX m tree_m small_m wide_m c.args.key.now c.find_path.new.desk.path way has_m c.args.desk.now.first.key c.args.desk.now.first.value own_is short_m in
    let put_is : record_of c.args.desk.now.first ∷ [] ≡ records_on 1 c.find_path.new.desk = ap (λ l. l ∷ []) (sym (ap record_of c.find_path.ensures.first)) in
    let can_is : CanClimb g.K.KeyOrder.is_key g.K.KeyOrder.cmp g.K.KeyOrder.MAX m c.find_path.new.desk.path ((stop_at c.find_path.new.desk.path (c.shape-shape.result.depth - 1)).at - 1) true (records_on 1 c.find_path.new.desk) c.spare_of-spare.result =
    subst (λ l. CanClimb g.K.KeyOrder.is_key g.K.KeyOrder.cmp g.K.KeyOrder.MAX m c.find_path.new.desk.path ((stop_at c.find_path.new.desk.path (c.shape-shape.result.depth - 1)).at - 1) true l c.spare_of-spare.result) put_is
    (subst (λ d. CanClimb g.K.KeyOrder.is_key g.K.KeyOrder.cmp g.K.KeyOrder.MAX m c.find_path.new.desk.path ((stop_at c.find_path.new.desk.path (d - 1)).at - 1) true (record_of c.args.desk.now.first ∷ []) c.spare_of-spare.result) deep can) in
    let leaves_is : leaves_edited m c.find_path.new.desk.path ((stop_at c.find_path.new.desk.path (m.shape.depth - 1)).at - 1) true (record_of c.args.desk.now.first ∷ [])
    ≡ leaves_edited m c.find_path.new.desk.path ((stop_at c.find_path.new.desk.path (c.shape-shape.result.depth - 1)).at - 1) true (records_on 1 c.find_path.new.desk) =
    ap (λ d. leaves_edited m c.find_path.new.desk.path ((stop_at c.find_path.new.desk.path (d - 1)).at - 1) true (record_of c.args.desk.now.first ∷ [])) deep
    ∙ ap (λ l. leaves_edited m c.find_path.new.desk.path ((stop_at c.find_path.new.desk.path (c.shape-shape.result.depth - 1)).at - 1) true l) put_is in
    let records : c.shape-shape.result.leaf_records ≡ length (leaves_edited m c.find_path.new.desk.path ((stop_at c.find_path.new.desk.path (c.shape-shape.result.depth - 1)).at - 1) true (records_on 1 c.find_path.new.desk)) =
    ap (λ h. h.leaf_records) shape_is ∙ sym many ∙ ap length leaves_is in
    on_ok_then c.rebuild.result (bounds_read g.K.KeyOrder.MAX s.shape.depth s m t t.shape.depth t.shape.root reads tells)
    (c.rebuild.ensures.roots (reads.same.tells ∙ tells) shape_is can_is)

pub returns-then-not-branch-clause-thick : goal.returns-then-not-branch-clause-thick
returns-then-not-branch-clause-thick g c = λ tells wide (k, inside, same, own) short.
    let s = g.N.NodeStore.state c.args.store.now in
    let none : pairs_of s ≡ [] = bare_pairs s (c.requires.tree tells) (c.in_ok-find_path.ensures.none tells c.if-not-branch.true) in
    absurd (omega (arith, inside, ap length none))

pub returns-then-at-eq0-clause-thick : goal.returns-then-at-eq0-clause-thick
returns-then-at-eq0-clause-thick g c = λ tells wide holds short.
    let has : HasKey g.K.KeyOrder.cmp c.args.key.now (pairs_of (g.N.NodeStore.state c.args.store.now)) = (holds.0, holds.1, holds.2) in
    let s = g.N.NodeStore.state c.args.store.now in
    let total : s.shape.total ≡ c.total_of-total.result = ap (λ h. h.total) (sym c.shape-shape.ensures) ∙ sym c.total_of-total.ensures in
    let small : s.shape.total ≤ 2 ^ 32 = omega (arith, total, c.total_of-total.type_inv) in
    let some = found_some g.K.KeyOrder.is_key g.K.KeyOrder.cmp g.met.K.KeyOrder.total g.met.K.KeyOrder.key_length g.K.KeyOrder.MAX s (c.requires.tree tells) small wide c.args.key.now c.find_path.new.desk.path
    (c.in_ok-find_path.ensures.way tells c.if-not-branch.false) has in
    let deep : c.shape-shape.result.depth ≡ s.shape.depth = ap (λ h. h.depth) c.shape-shape.ensures in
    absurd (omega (arith, some, c.if-at-eq0.true, ap (λ d. (stop_at c.find_path.new.desk.path (d - 1)).at) deep))

pub returns-clause-thick : goal.returns-clause-thick
returns-clause-thick g c = λ tells wide holds short.
    let s = g.N.NodeStore.state c.args.store.now in
    let m = g.N.NodeStore.state c.find_path.new.store in
    let t = g.N.NodeStore.state c.rebuild.new.store in
    let reads = c.find_path.ensures.reads in
    let total : s.shape.total ≡ c.total_of-total.result = ap (λ h. h.total) (sym c.shape-shape.ensures) ∙ sym c.total_of-total.ensures in
    let small : s.shape.total ≤ 2 ^ 32 = omega (arith, total, c.total_of-total.type_inv) in
    let small_m : m.shape.total ≤ 2 ^ 32 = omega (arith, small, reads.same.total) in
    let tree = c.requires.tree tells in
    let tree_m = read_tree g.met.K.KeyOrder.key_length s.shape.depth s m reads tells small tree in
    let same_pairs = read_pairs g.met.K.KeyOrder.key_length s.shape.depth s m reads tells small tree in
    let wide_m : 3 * (g.K.KeyOrder.MAX + 8) ≤ node_room m.shape.node_size = subst (λ n. 3 * (g.K.KeyOrder.MAX + 8) ≤ node_room n) (sym reads.same.node_size) wide in
    let nodes = reads.tree tells in
    let way : LeadsWay g.K.KeyOrder.cmp c.args.key.now m c.find_path.new.desk.path = way_read g.K.KeyOrder.cmp c.args.key.now s m c.find_path.new.desk.path reads.shape nodes.nodes (c.in_ok-find_path.ensures.way tells c.if-not-branch.false) in
    let holds_m : HoldsKeyOf g.K.KeyOrder.cmp c.args.key.now m c.args.desk.now.first.key =
    subst (λ (l : List Pair). (k : ℕ) × (k < length l) × (g.K.KeyOrder.cmp (get_or l k ([], [])).0 c.args.key.now ≡ Equal) × (c.args.desk.now.first.key ≡ (get_or l k ([], [])).0)) (sym same_pairs) holds in
    let has_m : HasKey g.K.KeyOrder.cmp c.args.key.now (pairs_of m) = (holds_m.0, holds_m.1, holds_m.2) in
    let own_is = own_key_is g.K.KeyOrder.is_key g.K.KeyOrder.cmp g.met.K.KeyOrder.total g.met.K.KeyOrder.key_length g.K.KeyOrder.MAX m tree_m small_m wide_m c.args.key.now c.find_path.new.desk.path way has_m c.args.desk.now.first.key holds_m in
    let short_m : length (c.args.desk.now.first.key ++ c.args.desk.now.first.value) ≤ m.shape.node_size / 2 - 10 = subst (λ n. length (record_of c.args.desk.now.first) ≤ n / 2 - 10) (sym reads.same.node_size) short in
    let shape_is : c.shape-shape.result ≡ m.shape = c.shape-shape.ensures ∙ sym reads.shape in
    let deep : m.shape.depth ≡ c.shape-shape.result.depth = ap (λ h. h.depth) (sym shape_is) in
    let enough : m.shape.depth + 1 ≤ c.spare_of-spare.result = omega (arith, c.spare_of-spare.ensures.some refl, deep) in
    let can = can_change g.K.KeyOrder.is_key g.K.KeyOrder.cmp g.met.K.KeyOrder.total g.met.K.KeyOrder.key_length g.K.KeyOrder.MAX m tree_m small_m wide_m c.args.key.now c.find_path.new.desk.path way has_m c.args.desk.now.first.key c.args.desk.now.first.value own_is short_m c.spare_of-spare.result enough in
    let many = count_changed g.K.KeyOrder.is_key g.K.KeyOrder.cmp g.met.K.KeyOrder.total g.met.K.KeyOrder.key_length g.K.KeyOrder.MAX m tree_m small_m wide_m c.args.key.now c.find_path.new.desk.path way has_m c.args.desk.now.first.key c.args.desk.now.first.value own_is short_m in
    let put_is : record_of c.args.desk.now.first ∷ [] ≡ records_on 1 c.find_path.new.desk = ap (λ l. l ∷ []) (sym (ap record_of c.find_path.ensures.first)) in
    let can_is : CanClimb g.K.KeyOrder.is_key g.K.KeyOrder.cmp g.K.KeyOrder.MAX m c.find_path.new.desk.path ((stop_at c.find_path.new.desk.path (c.shape-shape.result.depth - 1)).at - 1) true (records_on 1 c.find_path.new.desk) c.spare_of-spare.result =
    subst (λ l. CanClimb g.K.KeyOrder.is_key g.K.KeyOrder.cmp g.K.KeyOrder.MAX m c.find_path.new.desk.path ((stop_at c.find_path.new.desk.path (c.shape-shape.result.depth - 1)).at - 1) true l c.spare_of-spare.result) put_is
    (subst (λ d. CanClimb g.K.KeyOrder.is_key g.K.KeyOrder.cmp g.K.KeyOrder.MAX m c.find_path.new.desk.path ((stop_at c.find_path.new.desk.path (d - 1)).at - 1) true (record_of c.args.desk.now.first ∷ []) c.spare_of-spare.result) deep can) in
    let leaves_is : leaves_edited m c.find_path.new.desk.path ((stop_at c.find_path.new.desk.path (m.shape.depth - 1)).at - 1) true (record_of c.args.desk.now.first ∷ [])
    ≡ leaves_edited m c.find_path.new.desk.path ((stop_at c.find_path.new.desk.path (c.shape-shape.result.depth - 1)).at - 1) true (records_on 1 c.find_path.new.desk) =
    ap (λ d. leaves_edited m c.find_path.new.desk.path ((stop_at c.find_path.new.desk.path (d - 1)).at - 1) true (record_of c.args.desk.now.first ∷ [])) deep
    ∙ ap (λ l. leaves_edited m c.find_path.new.desk.path ((stop_at c.find_path.new.desk.path (c.shape-shape.result.depth - 1)).at - 1) true l) put_is in
    let records : c.shape-shape.result.leaf_records ≡ length (leaves_edited m c.find_path.new.desk.path ((stop_at c.find_path.new.desk.path (c.shape-shape.result.depth - 1)).at - 1) true (records_on 1 c.find_path.new.desk)) =
    ap (λ h. h.leaf_records) shape_is ∙ sym many ∙ ap length leaves_is in
    c.rebuild.ensures.thick (reads.same.tells ∙ tells) shape_is can_is
