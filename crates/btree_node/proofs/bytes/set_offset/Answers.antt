use Rattle.btree_node.proofs.Offsets.{sets_offset}
use Rattle.btree_node.proofs.bytes.set_offset.Goals as goal

pub returns : goal.returns
returns c = sets_offset c.args.node.now c.write_be16.new.bytes c.args.i c.args.x c.requires c.ranges.x.fits c.write_be16.ensures
