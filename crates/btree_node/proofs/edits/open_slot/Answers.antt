use Rattle.std.proofs.Common.{◌≡◌, ◌+◌, ◌-◌, arith, ap}
use Rattle.btree_node.specs.Node.{offset}
use Rattle.btree_node.proofs.Slots.{opens_slot, slots_down}
use Rattle.btree_node.proofs.edits.open_slot.Goals as goal

pub raise_offsets-requires-clause-fits : goal.raise_offsets-requires-clause-fits
raise_offsets-requires-clause-fits c = λ j from to.
    let sets : offset c.set_offset.new.node j ≡ offset c.move_down.new.bytes j = c.set_offset.ensures.others j (omega arith) (omega (arith, c.move_down.ensures.size)) in
    let moved = slots_down c.args.i c.args.n c.args.node.now c.move_down.new.bytes c.requires.inside (omega arith) c.move_down.ensures (j - 1) (omega arith) (omega arith) in
    let is : offset c.move_down.new.bytes j ≡ offset c.move_down.new.bytes (j - 1 + 1) = ap (λ k. offset c.move_down.new.bytes k) (omega arith) in
    omega (arith, sets, moved, is, c.requires.fits (j - 1) (omega arith) (omega arith))

pub set_count-requires-clause-size : goal.set_count-requires-clause-size
set_count-requires-clause-size c = omega (arith, c.raise_offsets.ensures.size, c.set_offset.ensures.size, c.move_down.ensures.size)

pub returns : goal.returns
returns c = opens_slot c.args.i c.args.n c.args.at c.args.len c.args.node.now c.move_down.new.bytes c.set_offset.new.node c.raise_offsets.new.node c.set_count.new.node c.requires.inside c.requires.room c.move_down.ensures c.set_offset.ensures c.raise_offsets.ensures c.set_count.ensures
