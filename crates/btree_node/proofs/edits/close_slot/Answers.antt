use Rattle.std.proofs.Common.{◌+◌, arith}
use Rattle.btree_node.proofs.Slots.{closes_slot, slots_up}
use Rattle.btree_node.proofs.edits.close_slot.Goals as goal

pub lower_offsets-requires-clause-fits : goal.lower_offsets-requires-clause-fits
lower_offsets-requires-clause-fits c = λ j from to. omega (arith, slots_up c.args.i c.args.n c.args.node.now c.move_up.new.bytes c.requires.inside (omega arith) c.move_up.ensures j from to, c.requires.fits (j + 1) (omega arith) (omega arith))

pub set_count-requires-clause-size : goal.set_count-requires-clause-size
set_count-requires-clause-size c = omega (arith, c.lower_offsets.ensures.size, c.move_up.ensures.size)

pub returns : goal.returns
returns c = closes_slot c.args.i c.args.n c.args.len c.args.node.now c.move_up.new.bytes c.lower_offsets.new.node c.set_count.new.node c.requires.inside c.requires.room c.move_up.ensures c.lower_offsets.ensures c.set_count.ensures
