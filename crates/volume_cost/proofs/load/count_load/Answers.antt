use Rattle.std.proofs.Common.{◌≤◌, ◌+◌, ◌*◌, ◌^◌, ℕ, ◌∙◌, ap, arith}
use Rattle.std.proofs.Math.Nat.{mul-le-mul}
use Rattle.hfs_volume.specs.Cost.{load_of, bitmap_load}
use Rattle.volume_cost.proofs.load.count_load.Goals as goal

pub overflow_cast-extents : goal.overflow_cast-extents
overflow_cast-extents c = omega (arith, c.load_at-extents.ensures.bound, c.requires.extents.bound)

pub overflow_cast-catalog : goal.overflow_cast-catalog
overflow_cast-catalog c = omega (arith, c.load_at-catalog.ensures.bound, c.requires.catalog.bound)

pub overflow_cast-attributes : goal.overflow_cast-attributes
overflow_cast-attributes c = omega (arith, c.load_at-attributes.ensures.bound, c.requires.attributes.bound)

updates_few : (n s : ℕ) → n ≤ 2 ^ 32 → s ≤ 2 ^ 23 → n * s ≤ 2 ^ 32 * 2 ^ 23
updates_few n s x y = mul-le-mul {n₁ = n} {m₁ = s} {n₂ = 2 ^ 32} {m₂ = 2 ^ 23} x y

pub overflow_add-result-2 : goal.overflow_add-result-2
overflow_add-result-2 c = omega (arith, updates_few c.args.needs.now.updates c.sectors_of_node.result (omega (arith, c.requires.small.updates)) c.sectors_of_node.ensures.bound, c.load_at-extents.ensures.bound, c.requires.extents.bound)

pub overflow_add-result-3 : goal.overflow_add-result-3
overflow_add-result-3 c = omega (
  arith,
  updates_few c.args.needs.now.updates c.sectors_of_node.result (omega (arith, c.requires.small.updates)) c.sectors_of_node.ensures.bound,
  c.load_at-extents.ensures.bound,
  c.requires.extents.bound,
  c.load_at-catalog.ensures.bound,
  c.requires.catalog.bound,
)

pub overflow_add-result-4 : goal.overflow_add-result-4
overflow_add-result-4 c = omega (
  arith,
  updates_few c.args.needs.now.updates c.sectors_of_node.result (omega (arith, c.requires.small.updates)) c.sectors_of_node.ensures.bound,
  c.load_at-extents.ensures.bound,
  c.requires.extents.bound,
  c.load_at-catalog.ensures.bound,
  c.requires.catalog.bound,
  c.load_at-attributes.ensures.bound,
  c.requires.attributes.bound,
)

pub overflow_add-result-5 : goal.overflow_add-result-5
overflow_add-result-5 c = omega (
  arith,
  updates_few c.args.needs.now.updates c.sectors_of_node.result (omega (arith, c.requires.small.updates)) c.sectors_of_node.ensures.bound,
  c.load_at-extents.ensures.bound,
  c.requires.extents.bound,
  c.load_at-catalog.ensures.bound,
  c.requires.catalog.bound,
  c.load_at-attributes.ensures.bound,
  c.requires.attributes.bound,
  c.bitmap_sectors.ensures.bound,
)

pub returns : goal.returns
unfolding load_of
returns c = λ i. 1 + c.args.needs.now.updates * (c.sectors_of_node.ensures.count i) + c.load_at-extents.ensures.load i + c.load_at-catalog.ensures.load i + c.load_at-attributes.ensures.load i
    + (c.bitmap_sectors.ensures.count ∙ ap (λ b. bitmap_load c.args.needs.now c.args.room.now b) c.requires.blocks) i
