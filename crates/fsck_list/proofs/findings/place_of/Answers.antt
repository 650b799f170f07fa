use Rattle.std.proofs.Common.{◌≡◌, ◌-◌, Bool, false, IsTrue, arith}
use Rattle.fsck_list.specs.declared.finding.Finding.{Finding}
use Rattle.fsck_list.proofs.KeptLaws.{place_is, one_more, found_here}
use Rattle.fsck_list.proofs.findings.place_of.Goals as goal

no_finding : Finding
no_finding = record { rule = 0; place = 0; found = 0; wanted = 0 }

never_both : (b : Bool) → b ≡ false → IsTrue b → ⊥
never_both b not is = cc

pub returns-then-is_before : goal.returns-then-is_before
unfolding no_finding
returns-then-is_before c =
    place_is c.args.finding.now no_finding c.args.list.now c.loop-at.at c.requires c.loop-at.invariant.0 c.loop-at.invariant.1 (λ some. c.is_before.ensures.0 c.if-is_before.true)

pub returns-then-not-is_before : goal.returns-then-not-is_before
unfolding no_finding
returns-then-not-is_before c =
    found_here c.args.finding.now no_finding c.args.list.now (c.loop-at.at - 1) (omega (arith, c.loop-at-test.true, c.loop-at.invariant.0))
    (λ before. never_both c.is_before.result c.if-is_before.false (c.is_before.ensures.1 before))
    (λ after. never_both c.is_before-in-loop-at.result c.if-not-is_before.true (c.is_before-in-loop-at.ensures.1 after))

pub loop-at-preserved : goal.loop-at-preserved
unfolding no_finding
loop-at-preserved c =
    (omega (arith, c.loop-at.invariant.0), one_more c.args.finding.now no_finding c.args.list.now c.loop-at.at c.loop-at-test.true c.loop-at.invariant.0 c.loop-at.invariant.1 (c.is_before-in-loop-at.ensures.0 c.if-not-is_before.false))

pub returns : goal.returns
returns c = place_is c.args.finding.now no_finding c.args.list.now 0 c.requires (omega arith) (λ k from. c.loop-at.invariant.1 k (omega (arith, c.loop-at-test.false))) (λ some. absurd (omega (arith, some)))
