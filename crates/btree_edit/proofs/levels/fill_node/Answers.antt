use Rattle.std.proofs.Common.{◌≡◌, ◌<◌, ◌∙◌, [], length, sym, arith}
use Rattle.std.proofs.lemmas.List.{nil_from_length}
use Rattle.btree_node.specs.Node.{items}
use Rattle.btree_edit.proofs.OneLevel.{kept_edit, same_head_both, above_zero}
use Rattle.btree_edit.proofs.levels.fill_node.Goals as goal

pub returns-clause-edit : goal.returns-clause-edit
returns-clause-edit g c = λ tells removed spare opened.
    let old = g.N.NodeStore.state c.args.store.now in
    let new = g.N.NodeStore.state c.save.new.self in
    let some : 0 < length (items c.put_all.new.node) = omega (arith, c.if-count-eq0.false, c.count.ensures) in
    kept_edit old new c.args.spot.height c.args.spot.node c.args.at removed _ spare opened.can c.save.ensures.same
    c.put_all.new.node _ _ c.args.shape.now (c.save.ensures.tree tells opened.can.spot.of_tree) c.save.ensures.shape
    (c.put_all.ensures.items ∙ opened.records) c.put_all.ensures.well_formed
    (same_head_both _ _ _ opened.head c.put_all.ensures.head) some (c.name_node.ensures.name some) (above_zero c.args.at)

pub returns-then-count-eq0-clause-edit : goal.returns-then-count-eq0-clause-edit
returns-then-count-eq0-clause-edit g c = λ tells removed spare opened.
    let none : items c.put_all.new.node ≡ [] = nil_from_length _ (omega (arith, c.if-count-eq0.true, c.count.ensures)) in
    c.drop_node.ensures.edit tells c.args.at spare removed _ opened.can (sym (c.put_all.ensures.items ∙ opened.records) ∙ none)
    (same_head_both _ _ _ opened.head c.put_all.ensures.head)
