use Rattle.std.proofs.Common.{◌≤◌, ◌<◌, ◌^◌, ◌+◌, ◌*◌, ◌%◌, ap, sym, ◌∙◌, arith, refl}
use Rattle.std.proofs.Math.Nat.{mul-le-mul_left}
use Rattle.std.specs.Option.{option_map}
use Rattle.fork_map.specs.Blocks.{blocks_of}
use Rattle.fork_map.proofs.Laws.{no_sectors, sector_at_place}
use Rattle.fork_map.proofs.list.ExtentList.sector_at.Goals as goal

pub returns-then-per_block-eq0 : goal.returns-then-per_block-eq0
returns-then-per_block-eq0 c = rw c.if-per_block-eq0.true (rw (no_sectors (blocks_of c.args.self.now)) refl)

pub returns-in-Some : goal.returns-in-Some
returns-in-Some c = ap (λ o. option_map (λ b. b * c.args.per_block + c.args.n % c.args.per_block) o) c.in-Some.ensures.block ∙ sym (sector_at_place c.args.per_block (blocks_of c.args.self.now) c.args.n (omega arith))

pub returns-in-None : goal.returns-in-None
returns-in-None c = ap (λ o. option_map (λ b. b * c.args.per_block + c.args.n % c.args.per_block) o) c.in-None.ensures.block ∙ sym (sector_at_place c.args.per_block (blocks_of c.args.self.now) c.args.n (omega arith))

pub overflow_mul-result : goal.overflow_mul-result
overflow_mul-result c =
    let bound : c.in-Some.block < 2 ^ 33 = c.in-Some.ensures.bound in
    let product : c.args.per_block * c.in-Some.block ≤ c.args.per_block * 2 ^ 33 = mul-le-mul_left c.args.per_block (omega arith) in
    omega arith

pub overflow_add-result : goal.overflow_add-result
overflow_add-result c =
    let bound : c.in-Some.block < 2 ^ 33 = c.in-Some.ensures.bound in
    let product : c.args.per_block * c.in-Some.block ≤ c.args.per_block * 2 ^ 33 = mul-le-mul_left c.args.per_block (omega arith) in
    let below : c.args.n % c.args.per_block < c.args.per_block = omega arith in
    omega arith
