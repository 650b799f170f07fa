use Rattle.std.proofs.Common.{[], ◌≡◌, ◌+◌, ◌∙◌, length, ap, sym, subst, arith}
use Rattle.btree_node.specs.Node.{items, SameHead}
use Rattle.btree_node.specs.Levels.{splice}
use Rattle.btree_edit.specs.LevelEdit.{bit, taken, edited, records_on}
use Rattle.btree_edit.specs.Writes.{IsOpened}
use Rattle.btree_edit.proofs.Cuts.{taken-put}
use Rattle.btree_edit.proofs.OneLevel.{opens}
use Rattle.btree_edit.proofs.levels.edit_level.Goals as goal

pub returns-clause-edit : goal.returns-clause-edit
returns-clause-edit g c = λ tells is kind can.
    let old = g.N.NodeStore.state c.args.store.now in
    let put = records_on c.args.count c.args.desk.now in
    let bytes = c.take_out.new.node in
    let made = c.take_out.ensures.items (omega (arith, can.inside, ap (λ l. length (items l)) is)) ∙ ap (λ l. splice (items l) c.args.at (c.args.at + bit c.args.removed) []) is in
    let opened : IsOpened old c.args.spot.height c.args.spot.node c.args.at c.args.removed put c.args.spare bytes =
    opens old c.args.spot.height c.args.spot.node c.args.at c.args.removed put c.args.spare bytes can made (subst (λ l. SameHead l bytes) is c.take_out.ensures.head) in
    let sum : taken (items bytes) + taken put ≡ taken (edited old c.args.spot.node c.args.at c.args.removed put) = sym (taken-put (items bytes) c.args.at put) ∙ ap taken opened.records in
    c.split_node.ensures.edit tells kind c.args.removed c.args.spare opened
    (omega (arith, sum, c.if-put_taken-room.false, c.room.ensures, c.put_taken.ensures.taken, opened.head.size, can.spot.is_node.size))

pub returns-then-put_taken-room-clause-edit : goal.returns-then-put_taken-room-clause-edit
returns-then-put_taken-room-clause-edit g c = λ tells is kind can.
    let old = g.N.NodeStore.state c.args.store.now in
    let put = records_on c.args.count c.args.desk.now in
    let bytes = c.take_out.new.node in
    let made = c.take_out.ensures.items (omega (arith, can.inside, ap (λ l. length (items l)) is)) ∙ ap (λ l. splice (items l) c.args.at (c.args.at + bit c.args.removed) []) is in
    let opened : IsOpened old c.args.spot.height c.args.spot.node c.args.at c.args.removed put c.args.spare bytes =
    opens old c.args.spot.height c.args.spot.node c.args.at c.args.removed put c.args.spare bytes can made (subst (λ l. SameHead l bytes) is c.take_out.ensures.head) in
    c.fill_node.ensures.edit tells c.args.removed c.args.spare opened
