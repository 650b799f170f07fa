use Rattle.btree_node.proofs.Descriptor.{sets_links}
use Rattle.btree_node.proofs.head.set_links.Goals as goal

pub returns : goal.returns
returns c = sets_links c.args.node.now c.write_be32.new.bytes c.write_be32-2.new.bytes c.args.next c.args.back c.requires c.ranges.next.fits c.ranges.back.fits c.write_be32.ensures c.write_be32-2.ensures
