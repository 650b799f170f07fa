use Rattle.std.proofs.Common.{◌≡◌, ◌+◌, ◌-◌, arith, ◌∙◌, ap, subst}
use Rattle.btree_node.specs.Node.{offset, record_count}
use Rattle.btree_node.specs.Bytes.{MovesDown, ClosesSlot}
use Rattle.btree_node.proofs.Items.{length-items, offsets_rise}
use Rattle.btree_node.proofs.Offsets.{same_offset}
use Rattle.btree_node.proofs.Removing.{removes_record}
use Rattle.btree_node.proofs.edits.remove_record.Goals as goal

pub get_offset-at-requires : goal.get_offset-at-requires
get_offset-at-requires c = omega (arith, c.requires.well_formed.inside, c.requires.inside, length-items c.args.node.now)

pub get_offset-to-requires : goal.get_offset-to-requires
get_offset-to-requires c = omega (arith, c.requires.well_formed.inside, c.requires.inside, length-items c.args.node.now)

pub overflow_sub-len : goal.overflow_sub-len
overflow_sub-len c = omega (arith, c.requires.well_formed.rising c.args.i (omega (arith, c.requires.inside, length-items c.args.node.now)))

pub overflow_add-i : goal.overflow_add-i
overflow_add-i c = omega (arith, c.requires.inside, length-items c.args.node.now)

pub move_down-requires-clause-ordered : goal.move_down-requires-clause-ordered
move_down-requires-clause-ordered c =
    let node = c.args.node.now in
    let end : offset node c.count_records-n.result ≡ offset node (record_count node) = ap (λ n. offset node n) c.count_records-n.ensures.count in
    let long = length-items node in
    omega (arith, end, c.requires.well_formed.rising c.args.i (omega arith), offsets_rise node c.requires.well_formed (c.args.i + 1) (record_count node) (omega arith) (omega arith))

pub close_slot-requires-clause-inside : goal.close_slot-requires-clause-inside
close_slot-requires-clause-inside c = omega (arith, length-items c.args.node.now)

pub close_slot-requires-clause-room : goal.close_slot-requires-clause-room
close_slot-requires-clause-room c =
    omega (arith, c.move_down.ensures.size, c.requires.well_formed.inside, c.requires.well_formed.first, offsets_rise c.args.node.now c.requires.well_formed 0 (record_count c.args.node.now) (omega arith) (omega arith))

pub close_slot-requires-clause-fits : goal.close_slot-requires-clause-fits
close_slot-requires-clause-fits c = λ j from to.
    let node = c.args.node.now in
    let count = c.count_records-n.ensures.count in
    let long = length-items node in
    let whole = c.requires.well_formed.inside in
    let end : offset node c.count_records-n.result ≡ offset node (record_count node) = ap (λ n. offset node n) count in
    let kept : offset c.move_down.new.bytes j ≡ offset node j = same_offset node c.move_down.new.bytes j c.move_down.ensures.size (omega arith) (λ k here. c.move_down.ensures.above k (omega arith)) in
    omega (arith, kept, offsets_rise node c.requires.well_formed (c.args.i + 1) j (omega arith) (omega arith))

pub returns : goal.returns
returns c =
    let node = c.args.node.now in
    let mid = c.move_down.new.bytes in
    let new = c.close_slot.new.node in
    let at = c.get_offset-at.ensures.value in
    let to = c.get_offset-to.ensures.value in
    let count = c.count_records-n.ensures.count in
    let end = c.get_offset-end.ensures.value ∙ ap (λ n. offset node n) count in
    let by : c.get_offset-to.result - c.get_offset-at.result ≡ offset node (c.args.i + 1) - offset node c.args.i = omega arith in
    let moved = subst (λ b. MovesDown (offset node c.args.i) (offset node (record_count node)) b node mid) by
    (subst (λ e. MovesDown (offset node c.args.i) e (c.get_offset-to.result - c.get_offset-at.result) node mid) end
    (subst (λ a. MovesDown a c.get_offset-end.result (c.get_offset-to.result - c.get_offset-at.result) node mid) at c.move_down.ensures)) in
    let slot = subst (λ b. ClosesSlot c.args.i (record_count node) b mid new) by
    (subst (λ n. ClosesSlot c.args.i n (c.get_offset-to.result - c.get_offset-at.result) mid new) count c.close_slot.ensures) in
    removes_record c.args.i node mid new c.requires.well_formed (omega (arith, length-items node)) moved slot
