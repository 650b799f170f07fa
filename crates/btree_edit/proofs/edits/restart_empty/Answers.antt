use Rattle.std.proofs.Common.{◌≡◌, ◌≤◌, ◌<◌, ◌-◌, ◌/◌, ◌^◌, ◌∷◌, [], length, true, false, sym, ◌∙◌, ap, subst, arith}
use Rattle.std.proofs.lemmas.Bool.{true≢false}
use Rattle.std.specs.Prelude.{IsTrue}
use Rattle.btree_node.specs.Node.{items}
use Rattle.btree_node.specs.Tree.{IsTreeNode}
use Rattle.btree_node.specs.Store.{MapsOnly}
use Rattle.btree_edit.specs.Halves.{record_of}
use Rattle.btree_edit.specs.Rising.{IsLeafRecord}
use Rattle.btree_edit.proofs.Outcomes.{on_ok_then, read_tree, root_in_use, root_not_reserved, bare_then, makes_from_bare, makes_read}
use Rattle.btree_edit.proofs.edits.restart_empty.Goals as goal

pub returns-then-not-branch-clause-tree : goal.returns-then-not-branch-clause-tree
returns-then-not-branch-clause-tree g c = λ tells tree some none is_record.
    let s = g.N.NodeStore.state c.args.store.now in
    let shape = c.shape-shape.ensures in
    let node : IsTreeNode s s.shape.depth s.shape.root = subst (λ h. IsTreeNode s h s.shape.root) {x = s.shape.depth - 0} (omega arith) (tree.levels.nodes 0 0 some (omega arith)) in
    let here : IsTreeNode s c.shape-shape.result.depth c.shape-shape.result.root =
    subst (λ h. IsTreeNode s h.depth h.root) (sym shape) node in
    let yes : c.in_ok-read_node.field-0 ≡ true = c.in_ok-read_node.ensures.sound tells here.inside here.kind (omega (arith, tree.header.depth, ap (λ h. h.depth) shape)) in
    absurd (true≢false (sym yes ∙ c.if-not-branch.true))

pub returns-clause-tree : goal.returns-clause-tree
returns-clause-tree g c = λ tells tree some none is_record.
    let s = g.N.NodeStore.state c.args.store.now in
    let m = g.N.NodeStore.state c.read_node.new.store in
    let t = g.N.NodeStore.state c.give_node.new.self in
    let u = g.N.NodeStore.state c.begin.new.store in
    let reads = c.read_node.ensures.reads in
    let total : s.shape.total ≡ c.total_of-total.result = ap (λ h. h.total) (sym c.shape-shape.ensures) ∙ sym c.total_of-total.ensures in
    let small : s.shape.total ≤ 2 ^ 32 = omega (arith, total, c.total_of-total.type_inv) in
    let tree_m = read_tree g.met.K.KeyOrder.key_length 1 s m reads tells small tree in
    let some_m : 0 < m.shape.depth = omega (arith, some, ap (λ h. h.depth) reads.shape) in
    let root : m.shape.root ≡ s.shape.root = ap (λ h. h.root) reads.shape in
    let none_m : length (items (m.nodes m.shape.root)) ≡ 0 = ap (λ n. length (items (m.nodes n))) root ∙ ap (λ l. length (items l)) ((reads.tree tells).nodes s.shape.root) ∙ none in
    let tells_m : IsTrue m.tells = reads.same.tells ∙ tells in
    let gave : m.shape.root ≡ c.shape-shape.result.root = root ∙ ap (λ h. h.root) (sym c.shape-shape.ensures) in
    let used : m.used c.shape-shape.result.root ≡ true = subst (λ n. m.used n ≡ true) gave (root_in_use m tree_m some_m none_m) in
    let free : m.reserved c.shape-shape.result.root ≡ false = subst (λ n. m.reserved n ≡ false) gave (root_not_reserved m tree_m some_m none_m) in
    let maps : MapsOnly m.shape.root false m t = subst (λ n. MapsOnly n false m t) (sym gave) (c.in_ok-give_node.ensures.tree tells_m used free) in
    let same = c.give_node.ensures.same in
    let bare = bare_then m tree_m some_m none_m t maps (c.in_ok-give_node.ensures.one_more tells_m used free) same in
    let rec_t : IsLeafRecord g.K.KeyOrder.is_key t (record_of c.args.desk.now.first) = record {
      key = is_record.key;
      short = subst (λ n. length (record_of c.args.desk.now.first) ≤ n / 2 - 10) (sym (same.node_size ∙ reads.same.node_size)) is_record.short;
    } in
    on_ok_then c.begin.result
    (λ makes. makes_read 1 s m u (record_of c.args.desk.now.first ∷ []) reads tells (makes_from_bare m tree_m some_m none_m t u (record_of c.args.desk.now.first ∷ []) maps same makes))
    (c.begin.ensures.tree (same.tells ∙ tells_m) (omega (arith, small, same.total, reads.same.total)) bare rec_t)

pub returns-clause-below : goal.returns-clause-below
returns-clause-below g c =
    g.met.N.NodeStore.follows_trans c.args.store.now c.read_node.new.store c.begin.new.store c.read_node.ensures.below
    (g.met.N.NodeStore.follows_trans c.read_node.new.store c.give_node.new.self c.begin.new.store c.give_node.ensures.below c.begin.ensures.below)

pub returns-then-not-branch-clause-one : goal.returns-then-not-branch-clause-one
returns-then-not-branch-clause-one g c = λ tells tree some none.
    let s = g.N.NodeStore.state c.args.store.now in
    let shape = c.shape-shape.ensures in
    let node : IsTreeNode s s.shape.depth s.shape.root = subst (λ h. IsTreeNode s h s.shape.root) {x = s.shape.depth - 0} (omega arith) (tree.levels.nodes 0 0 some (omega arith)) in
    let here : IsTreeNode s c.shape-shape.result.depth c.shape-shape.result.root =
    subst (λ h. IsTreeNode s h.depth h.root) (sym shape) node in
    let yes : c.in_ok-read_node.field-0 ≡ true = c.in_ok-read_node.ensures.sound tells here.inside here.kind (omega (arith, tree.header.depth, ap (λ h. h.depth) shape)) in
    absurd (true≢false (sym yes ∙ c.if-not-branch.true))
