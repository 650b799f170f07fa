use Rattle.std.proofs.Common.{length, ap, arith}
use Rattle.std.specs.List.{concat}
use Rattle.std.proofs.lemmas.List.{length-append}
use Rattle.btree_node.specs.Codec.{descriptor_bytes}
use Rattle.btree_node.proofs.Printing.{length-descriptor_bytes}
use Rattle.btree_node.proofs.codec.node_front.Goals as goal

pub returns-clause-size : goal.returns-clause-size
returns-clause-size c =
    let head = descriptor_bytes c.args.head.now (length c.args.items.now) in
    omega (
      arith,
      ap length c.in_ok-put_items.ensures,
      length-append c.put_descriptor.new.out.items (concat c.args.items.now),
      ap length c.in_ok-put_descriptor.ensures,
      length-append c.new-out.result.items head,
      ap length c.new-out.ensures.items,
      length-descriptor_bytes c.args.head.now (length c.args.items.now),
    )
