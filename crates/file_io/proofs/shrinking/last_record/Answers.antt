use Rattle.std.proofs.Common.{◌≤◌, ◌<◌, ◌-◌, ◌*◌, ◌/◌, arith, ⊎_elim}
use Rattle.std.proofs.lemmas.Bool.{cases_lt}
use Rattle.fork_map.proofs.Laws.{length_blocks_more}
use Rattle.file_io.proofs.CutLaws.{fewer_behind}
use Rattle.file_io.proofs.shrinking.last_record.Goals as goal

pub returns-then-items-behind-gt0-clause-last : goal.returns-then-items-behind-gt0-clause-last
returns-then-items-behind-gt0-clause-last c = λ n some. ⊎_elim
    (λ (lt : 8 * n < c.loop-behind.behind). omega (arith, lt))
    (λ (past : c.loop-behind.behind ≤ 8 * n). absurd (omega (arith, some, fewer_behind c.args.items.now c.loop-behind.behind (8 * n) past, c.loop-behind.invariant.none)))
    (cases_lt (8 * n) c.loop-behind.behind)

pub returns-then-items-behind-gt0-clause-some : goal.returns-then-items-behind-gt0-clause-some
returns-then-items-behind-gt0-clause-some c = λ some.
    let last = c.loop-behind.behind - 1 in
    omega (arith, fewer_behind c.args.items.now (last / 8 * 8) last (omega arith), length_blocks_more c.args.items.now last (record { start = 0; count = 0 }) (omega (arith, c.loop-behind-test.true, c.loop-behind.invariant.inside)), c.if-items-behind-gt0.true)

pub returns-clause-last : goal.returns-clause-last
returns-clause-last c = λ n some.
    let none : c.loop-behind.behind ≤ 8 * n = omega (arith, c.loop-behind-test.false) in
    absurd (omega (arith, some, fewer_behind c.args.items.now c.loop-behind.behind (8 * n) none, c.loop-behind.invariant.none))
