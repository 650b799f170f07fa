use Rattle.btree_node.proofs.Slots.{sets_count}
use Rattle.btree_node.proofs.edits.set_count.Goals as goal

pub returns : goal.returns
returns c = sets_count c.args.node.now c.write_be16.new.bytes c.args.n c.requires.size c.requires.small c.write_be16.ensures
