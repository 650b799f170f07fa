use Rattle.std.proofs.Common.{◌≡◌, ◌+◌, ◌-◌, ◌*◌, ◌/◌, ◌%◌, ◌<◌, refl, subst, arith}
use Rattle.file_io.specs.Walks.{StandsAt}
use Rattle.file_io.proofs.WalkLaws.{walk, block_begun, none_before}
use Rattle.file_io.proofs.walk.Walk.before.Goals as goal

pub returns-in-Some : goal.returns-in-Some
returns-in-Some c = λ lt.
    let p = c.args.per_block in
    let n = c.args.n in
    let below : n % p < p = omega (arith, c.requires.some) in
    let split : n / p * p + n % p ≡ n = omega (arith, c.requires.some) in
    subst (λ m. StandsAt c.args.fork.now p (walk c.next_block.new.at (c.in-Some.block * p + n % p) (p - n % p)) m) split
    (block_begun c.args.fork.now p c.next_block.new.at (n / p) (n % p) c.in-Some.block below c.requires.few c.in-Some.ensures.bound (c.in-Some.ensures.block (n / p) c.seek-at.ensures) (c.in-Some.ensures.moved (n / p) c.seek-at.ensures refl))

pub returns-in-None : goal.returns-in-None
returns-in-None c = λ lt. absurd (none_before c.args.fork.now c.args.per_block c.args.n c.requires.some (c.in-None.ensures.block (c.args.n / c.args.per_block) c.seek-at.ensures) lt)
