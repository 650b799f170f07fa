use Rattle.std.proofs.Common.{◌∙◌, sym}
use Rattle.btree_node.specs.Node.{record_count}
use Rattle.btree_node.proofs.Items.{length-items}
use Rattle.btree_node.proofs.reads.count.Goals as goal

pub returns : goal.returns
unfolding record_count
returns c = c.read_be16.ensures ∙ sym (length-items c.args.node.now)
