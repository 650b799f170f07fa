use Rattle.std.proofs.Common.{length, ap, refl, ◌∙◌}
use Rattle.std.proofs.lemmas.Int.{to_z-of_z}
use Rattle.std.specs.Int.{w8}
use Rattle.btree_node.specs.Node.{empty_node}
use Rattle.btree_node.proofs.Descriptor.{clears_node}
use Rattle.btree_node.proofs.head.clear.Goals as goal

pub returns : goal.returns
returns c =
    clears_node (length c.args.node.now) c.args.kind c.args.height c.requires c.args.node.now c.write_empty.new.node refl c.ranges.kind
    (c.write_empty.ensures ∙ ap (λ k. empty_node (length c.args.node.now) k c.args.height) (to_z-of_z w8 c.args.kind c.ranges.kind))
