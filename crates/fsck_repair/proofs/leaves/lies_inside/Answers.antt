use Rattle.std.proofs.Common.{◌≡◌, ◌<◌, ◌≤◌, ◌+◌, ◌*◌, ℕ, subst, arith, ⊎_elim}
use Rattle.std.specs.Prelude.{Some, slice_get}
use Rattle.std.proofs.lemmas.Bool.{cases_lt}
use Rattle.fork_map.specs.Blocks.{fork_sectors}
use Rattle.fsck_repair.proofs.leaves.lies_inside.Goals as goal

pub loop-k-init : goal.loop-k-init
loop-k-init c j at none = absurd (omega (arith, none))

pub loop-k-preserved : goal.loop-k-preserved
loop-k-preserved c j at less there = ⊎_elim
    (λ (early : j < c.loop-k.k). c.loop-k.invariant j at early there)
    (λ (last : c.loop-k.k ≤ j).
    c.is_inside.ensures c.if-not-is_inside.false at
    (subst (λ n. slice_get (fork_sectors c.args.fork.now.extents.now c.args.fork.now.per_block) (c.args.n * c.args.per_node + n) ≡ Some at) {x = j} {y = c.loop-k.k} (omega (arith, last, less)) there))
    (cases_lt j c.loop-k.k)

pub returns : goal.returns
returns c right j at less there = c.loop-k.invariant j at (omega (arith, less, c.loop-k-test.false, c.loop-k.auto.k-end)) there
