use Rattle.std.proofs.Common.{◌≤◌, length, ap, sym, subst, ◌∙◌}
use Rattle.btree_node.specs.Node.{items}
use Rattle.btree_edit.specs.Following.{IsInLeaf, IsLocated}
use Rattle.btree_edit.proofs.Behind.{next_here, next_over, steps_same, leaf_same, not_inside}
use Rattle.btree_edit.proofs.following.next.Goals as goal

pub returns-then-keep_record-clause-next : goal.returns-then-keep_record-clause-next
returns-then-keep_record-clause-next g c = λ tells.
    let s = g.N.NodeStore.state c.args.store.now in
    let found : IsInLeaf g.K.KeyOrder.cmp c.args.key.now s c.locate.new.desk c.in-Some.at = subst (λ o. IsLocated g.K.KeyOrder.cmp c.args.key.now s c.locate.new.desk o) c.in-Some.is (c.in_ok-at.ensures.at tells) in
    next_here g.K.KeyOrder.is_key g.K.KeyOrder.cmp g.met.K.KeyOrder.total g.met.K.KeyOrder.key_length s (c.requires.tree tells) c.args.key.now c.locate.new.desk c.keep_record.new.desk c.in-Some.at found
    (c.keep_record.ensures.some c.if-keep_record.true) (c.keep_record.ensures.key c.if-keep_record.true) (c.keep_record.ensures.value c.if-keep_record.true)

pub returns-clause-next : goal.returns-clause-next
returns-clause-next g c = λ tells.
    let s = g.N.NodeStore.state c.args.store.now in
    let found : IsInLeaf g.K.KeyOrder.cmp c.args.key.now s c.locate.new.desk c.in-Some.at = subst (λ o. IsLocated g.K.KeyOrder.cmp c.args.key.now s c.locate.new.desk o) c.in-Some.is (c.in_ok-at.ensures.at tells) in
    let kept = c.keep_record.ensures.kept c.if-keep_record.false in
    let past = not_inside c.in-Some.at (length (items c.locate.new.desk.node)) c.keep_record.result c.keep_record.ensures.all c.if-keep_record.false in
    next_over g.K.KeyOrder.is_key g.K.KeyOrder.cmp g.met.K.KeyOrder.total g.met.K.KeyOrder.key_length s (c.requires.tree tells) c.args.key.now c.keep_record.new.desk c.step_over.new.desk c.in-Some.at
    (leaf_same g.K.KeyOrder.cmp c.args.key.now s c.locate.new.desk c.keep_record.new.desk c.in-Some.at c.keep_record.ensures.node found)
    (subst (λ l. length (items l) ≤ c.in-Some.at) (sym c.keep_record.ensures.node) past)
    (record { key = ap (λ h. h.key) kept ∙ ap (λ h. h.key) c.locate.ensures.held ∙ c.forget.ensures.key; value = ap (λ h. h.value) kept ∙ ap (λ h. h.value) c.locate.ensures.held ∙ c.forget.ensures.value })
    c.in_ok-found.found
    (steps_same s.shape.depth s (g.N.NodeStore.state c.locate.new.store) c.locate.ensures.reads tells c.keep_record.new.desk c.step_over.new.desk c.in_ok-found.found
    (c.in_ok-found.ensures.steps (c.locate.ensures.reads.same.tells ∙ tells)))
