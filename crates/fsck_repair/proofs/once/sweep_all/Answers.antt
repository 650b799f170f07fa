use Rattle.std.proofs.Common.{refl, sym, arith}
use Rattle.std.proofs.lemmas.Bool.{true≢false}
use Rattle.fsck_repair.proofs.OnceLaws.{swept_all, swept_more, twice_first, starts_before}
use Rattle.fsck_repair.proofs.once.sweep_all.Goals as goal

-- src/once.rt:92:13
pub returns-in_default : goal.returns-in_default
returns-in_default c order =
    let i = c.loop-one.one-index in
    let before = starts_before c.args.uses.now i c.loop-one-test.true order in
    ((λ told. absurd (true≢false (sym told))), (λ once. absurd (twice_first c.args.uses.now i c.loop-one-test.true (c.in_default.ensures _ _ _ (c.loop-one.invariant order _ before) (omega arith)) once)))

-- src/once.rt:90:5
pub loop-one-preserved : goal.loop-one-preserved
loop-one-preserved c order last all =
    let i = c.loop-one.one-index in
    let before = starts_before c.args.uses.now i c.loop-one-test.true order in
    swept_more c.args.uses.now i c.loop-one-test.true c.in-Some.next last (all i (omega arith)) (c.in-Some.ensures _ _ _ (c.loop-one.invariant order _ before) (omega arith))

-- src/once.rt:82:1
pub returns : goal.returns
returns c order = ((λ told. swept_all c.args.uses.now c.loop-one.one-index c.loop-one.sweep order c.loop-one-test.false (c.loop-one.invariant order)), (λ once. refl))
