use Rattle.hfs_volume.specs.Content.{extents_file}
use Rattle.fsck_repair.proofs.SizeTelling.{extents_told}
use Rattle.fsck_repair.proofs.sizes.has_extents_size.Goals as goal

pub returns-clause-met : goal.returns-clause-met
returns-clause-met g c content shows head =
    extents_told content c.args.head.now c.in_ok-met.met head (c.in_ok-met.ensures (extents_file content) (c.in_ok-tree.ensures.value content shows head))
