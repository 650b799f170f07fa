use Rattle.std.proofs.Common.{refl, ◌≡◌, ◌≢◌, ℕ, ◌-◌, ◌∙◌, false, true, IsTrue, ap, sym, subst}
use Rattle.btree_node.specs.Store.{SameStore, MapsOnly, with_free}
use Rattle.btree_node.specs.Node.{next_of, items}
use Rattle.btree_node.specs.Tree.{IsTreeNode, kind_at}
use Rattle.btree_edit.specs.Halves.{record_of, IsSplit, AreForTwo, with_put}
use Rattle.btree_edit.specs.LevelEdit.{edited, records_on}
use Rattle.btree_edit.specs.Writes.{SetsBack, WritesHalves}
use Rattle.btree_edit.proofs.OneLevel.{split_edit, still_tree_node}
use Rattle.btree_edit.proofs.Repeated.{same_store_both}
use Rattle.btree_edit.proofs.levels.split_node.Goals as goal

pub returns-clause-edit : goal.returns-clause-edit
returns-clause-edit g c = λ tells kind removed spare opened over.
    let old = g.N.NodeStore.state c.args.store.now in
    let mid = g.N.NodeStore.state c.take_node.new.self in
    let last = g.N.NodeStore.state c.write_halves-next.new.store in
    let new = g.N.NodeStore.state c.set_back.new.store in
    let height = c.args.spot.height in
    let node = c.args.spot.node in
    let fresh = c.in_ok-fresh.fresh in
    let can = opened.can in
    let put = records_on c.args.count c.args.desk.now in
    let front = c.split.new.node in
    let back = c.split.new.other in
    let halved = c.if-not-split.ensures.split refl in
    let cut : IsSplit (kind_at height) height (edited old node c.args.at removed put) c.args.desk.now.node front back =
    subst (λ l. IsSplit (kind_at height) height l c.args.desk.now.node front back) opened.records
    (subst (λ k. IsSplit k height (with_put (items c.args.desk.now.node) c.args.at put) c.args.desk.now.node front back)
    (sym halved.is_front.has_kind ∙ halved.head.kind ∙ c.requires.node.has_kind ∙ kind) halved) in
    let free = c.in_ok-fresh.ensures.was_free tells in
    let plain = c.in_ok-fresh.ensures.of_tree tells in
    let maps : MapsOnly fresh true old mid = c.in_ok-fresh.ensures.tree tells in
    let one : SameStore old mid = c.take_node.ensures.same in
    let two : SameStore old last = same_store_both one c.write_halves-next.ensures.does.same in
    let other : (n : ℕ) → old.used n ≡ true → n ≢ fresh = λ n used is. cc in
    let halves : WritesHalves node fresh front back mid last = c.write_halves-next.ensures.halves (subst (λ b. IsTrue b) (sym one.tells) tells) (other node can.spot.used)
    (one.reserved node ∙ can.spot.of_tree) (one.reserved fresh ∙ plain) in
    let next = c.write_halves-next.result in
    let next_is : next ≡ next_of (old.nodes node) = c.write_halves-next.ensures.next ∙ cut.head.next ∙ opened.head.next in
    let behind = λ (is : next ≢ 0). subst (λ n. IsTreeNode old height n × (old.used n ≡ true) × (old.reserved n ≡ false) × (n ≢ node)) (sym next_is)
    (let b = (can.spot.behind (subst (λ n. n ≢ 0) next_is is)).0 in (b.is_node, b.used, b.of_tree, b.other)) in
    let beside : SetsBack next fresh last new = c.in_ok-set_back.ensures.back (subst (λ b. IsTrue b) (sym two.tells) tells)
    (λ is. still_tree_node old last height next two
    (halves.others next (behind is).3 (other next (behind is).1) ∙ maps.nodes next (behind is).2) (behind is).0)
    (λ is. two.reserved next ∙ (behind is).2) in
    let shapes : new.shape ≡ with_free old.shape (old.shape.free - 1) = c.set_back.ensures.shape ∙ c.write_halves-next.ensures.shape ∙ c.in_ok-fresh.ensures.shape in
    split_edit old new height node c.args.at removed put spare can (same_store_both two c.set_back.ensures.does.same) mid last fresh
    c.args.desk.now.node front back c.set_back.new.desk c.args.shape.now c.end_behind.new.shape maps free plain c.in_ok-fresh.ensures.inside halves
    (subst (λ n. SetsBack n fresh last new) next_is beside) shapes c.requires.free cut opened.head
    (ap record_of c.set_back.ensures.first ∙ c.write_halves-next.ensures.first cut.some_front) (ap record_of c.set_back.ensures.second ∙ c.write_halves-next.ensures.second cut.some_back)
    over
    (λ two. c.if-not-split.ensures.sixth (subst (λ n. AreForTwo n (with_put (items c.args.desk.now.node) c.args.at put)) (sym c.requires.desk.node) (subst (λ l. AreForTwo old.shape.node_size l) (sym opened.records) two)))
    (c.end_behind.ensures.ends _ _)
