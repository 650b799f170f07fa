use Rattle.std.proofs.Common.{◌≡◌, ◌≢◌, ◌+◌, ◌∙◌, false, true, IsTrue, [], ap, sym, subst}
use Rattle.btree_node.specs.Store.{SameStore, MapsOnly, with_free}
use Rattle.btree_node.specs.Node.{next_of, back_of}
use Rattle.btree_node.specs.Tree.{IsTreeNode}
use Rattle.btree_node.specs.declared.store.TreeShape.{TreeShape}
use Rattle.btree_edit.specs.LevelEdit.{MovesEnds}
use Rattle.btree_edit.specs.Writes.{SetsNext, SetsBack}
use Rattle.btree_edit.proofs.OneLevel.{dropped_edit, still_tree_node}
use Rattle.btree_edit.proofs.Repeated.{same_store_both}
use Rattle.btree_edit.proofs.levels.drop_node.Goals as goal

pub returns-clause-edit : goal.returns-clause-edit
returns-clause-edit g c = λ tells place spare removed put can none head.
    let old = g.N.NodeStore.state c.args.store.now in
    let mid = g.N.NodeStore.state c.set_next.new.store in
    let last = g.N.NodeStore.state c.set_back.new.store in
    let new = g.N.NodeStore.state c.give_node.new.self in
    let height = c.args.spot.height in
    let node = c.args.spot.node in
    let next = c.links-next.result.0 in
    let back = c.links-next.result.1 in
    let next_is : next ≡ next_of (old.nodes node) = c.links-next.ensures.next ∙ head.next in
    let back_is : back ≡ back_of (old.nodes node) = c.links-next.ensures.back ∙ head.back in
    let one : SameStore old mid = c.set_next.ensures.does.same in
    let two : SameStore old last = same_store_both one c.set_back.ensures.does.same in
    let before = λ (is : back ≢ 0). can.spot.before (subst (λ n. n ≢ 0) back_is is) in
    let behind = λ (is : next ≢ 0). can.spot.behind (subst (λ n. n ≢ 0) next_is is) in
    let first : SetsNext back next old mid = c.in_ok-set_next.ensures.next tells
    (λ is. subst (λ n. IsTreeNode old height n) (sym back_is) (before is).0.is_node)
    (λ is. subst (λ n. old.reserved n ≡ false) (sym back_is) (before is).0.of_tree) in
    let apart : next ≢ 0 → next ≢ back = λ some is. can.spot.apart (λ none. some (is ∙ back_is ∙ none)) (sym back_is ∙ sym is ∙ next_is) in
    let mid_tells : IsTrue mid.tells = subst (λ b. IsTrue b) (sym one.tells) tells in
    let second : SetsBack next back mid last = c.in_ok-set_back.ensures.back mid_tells
    (λ is. still_tree_node old mid height next one (first.others next (apart is)) (subst (λ n. IsTreeNode old height n) (sym next_is) (behind is).0.is_node))
    (λ is. one.reserved next ∙ subst (λ n. old.reserved n ≡ false) (sym next_is) (behind is).0.of_tree) in
    let used : last.used node ≡ true = second.used node ∙ first.used node ∙ can.spot.used in
    let plain : last.reserved node ≡ false = two.reserved node ∙ can.spot.of_tree in
    let last_tells : IsTrue last.tells = subst (λ b. IsTrue b) (sym two.tells) tells in
    let maps : MapsOnly node false last new = c.in_ok-give_node.ensures.tree last_tells used plain in
    let shape : last.shape ≡ old.shape = c.set_back.ensures.shape ∙ c.set_next.ensures.shape in
    let free = c.in_ok-give_node.ensures.one_more last_tells used plain in
    let shapes : new.shape ≡ with_free old.shape (old.shape.free + 1) =
    c.give_node.ensures.shape ∙ ap (λ (s : TreeShape). with_free s new.shape.free) shape ∙ ap (λ n. with_free old.shape n) (free ∙ ap (λ (s : TreeShape). s.free + 1) shape) in
    dropped_edit old new height node place removed put spare can (same_store_both two c.give_node.ensures.same) mid last c.set_back.new.desk c.args.shape.now c.end_beside.new.shape
    (subst (λ n. SetsNext n (next_of (old.nodes node)) old mid) back_is (subst (λ n. SetsNext back n old mid) next_is first))
    (subst (λ n. SetsBack n (back_of (old.nodes node)) mid last) next_is (subst (λ n. SetsBack next n mid last) back_is second))
    maps two.reserved shapes none
    (subst (λ n. MovesEnds height node [] (back_of (old.nodes node)) n c.args.shape.now c.end_beside.new.shape) next_is
    (subst (λ n. MovesEnds height node [] n next c.args.shape.now c.end_beside.new.shape) back_is c.end_beside.ensures.ends))
