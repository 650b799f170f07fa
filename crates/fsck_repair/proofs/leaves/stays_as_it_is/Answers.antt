use Rattle.std.proofs.Common.{◌/◌, ℕ, List, length, subst}
use Rattle.fork_map.specs.Blocks.{fork_sectors}
use Rattle.fsck_repair.specs.Leaf.{LiesInside}
use Rattle.fsck_repair.proofs.leaves.stays_as_it_is.Goals as goal

pub returns-clause-inside : goal.returns-clause-inside
returns-clause-inside c holds =
    subst (λ (l : List ℕ). LiesInside (fork_sectors c.args.fork.now.extents.now c.args.fork.now.per_block) (length l / 512) c.args.fork.now.limit c.args.n) c.bytes.ensures.value (c.lies_inside.ensures c.if-not-lies_inside.false)

pub returns-clause-right : goal.returns-clause-right
returns-clause-right c records are good holds = c.in_ok-right.ensures records are good holds
