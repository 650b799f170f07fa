use Rattle.std.proofs.Common.{◌≡◌, ◌<◌, ◌+◌, ◌*◌, ℕ}
use Rattle.std.specs.Prelude.{Some, slice_get}
use Rattle.fork_map.specs.Blocks.{fork_sectors}
use Rattle.fsck_repair.proofs.leaves.lies_inside.Given as goal

abbrev pub invariant-loop-k : goal.invariant-loop-k
invariant-loop-k l = (j at : ℕ) → j < l.k → slice_get (fork_sectors l.fork.extents.now l.fork.per_block) (l.n * l.per_node + j) ≡ Some at → at < l.fork.limit
