use Rattle.hfs_volume.specs.Content.{attributes_file}
use Rattle.fsck_core.proofs.ShownLaws.{has_them, has_none}
use Rattle.fsck_repair.proofs.SizeTelling.{attributes_told, no_attributes_size}
use Rattle.fsck_repair.proofs.sizes.has_attributes_size.Goals as goal

pub returns-then-head-eq0-clause-met : goal.returns-then-head-eq0-clause-met
returns-then-head-eq0-clause-met g c content shows head overflow = no_attributes_size content (has_none content c.args.head.now head c.if-head-eq0.true)

pub returns-clause-met : goal.returns-clause-met
returns-clause-met g c content shows head overflow =
    attributes_told content c.args.head.now c.in_ok-met.met head (has_them content c.args.head.now head c.if-head-eq0.false) (c.in_ok-met.ensures (attributes_file content) (c.in_ok-tree.ensures.value content shows head overflow))
