use Rattle.std.proofs.Common.{List, subst, arith}
use Rattle.hfs_volume.specs.Broken.{Want}
use Rattle.fsck_core.specs.Judged.{Judged, AddsUnmet}
use Rattle.fsck_core.specs.Owners.{extent_want}
use Rattle.fsck_core.proofs.JudgedLaws.{judged_none, judged_more, judged_all, adds_more}
use Rattle.fsck_core.proofs.ForkWants.{extents_are}
use Rattle.fsck_core.proofs.forks.judge_extents.Goals as goal

pub loop-extent-init : goal.loop-extent-init
loop-extent-init c = record { judged = judged_none 16 c.args.out.now }

pub loop-extent-preserved : goal.loop-extent-preserved
loop-extent-preserved c = record {
  judged = judged_more 16 (extent_want c.args.id c.args.total) c.args.extents.now c.loop-extent.extent-index (record { start = 0; count = 0 }) c.args.out.now c.loop-extent.out c.judge_extent.new.out c.loop-extent.met c.in_ok-one.one c.both-met.result c.loop-extent-test.true c.both-met.ensures
      c.loop-extent.invariant.judged c.in_ok-one.ensures.judged;
}

pub returns-in_err-one-clause-each : goal.returns-in_err-one-clause-each
returns-in_err-one-clause-each c = subst (λ (l : List Want). AddsUnmet 16 l c.args.out.now c.judge_extent.new.out) (extents_are c.args.id c.args.total c.args.extents.now) (adds_more 16 (extent_want c.args.id c.args.total) c.args.extents.now c.loop-extent.extent-index (record { start = 0; count = 0 }) c.args.out.now c.loop-extent.out c.judge_extent.new.out c.loop-extent-test.true c.loop-extent.invariant.judged.each c.judge_extent.ensures.each)

pub returns-clause-judged : goal.returns-clause-judged
returns-clause-judged c = subst (λ (l : List Want). Judged 16 l c.args.out.now c.loop-extent.out c.loop-extent.met) (extents_are c.args.id c.args.total c.args.extents.now) (judged_all 16 (extent_want c.args.id c.args.total) c.args.extents.now c.loop-extent.extent-index c.args.out.now c.loop-extent.out c.loop-extent.met (omega (arith, c.loop-extent-test.false)) c.loop-extent.invariant.judged)

pub returns-clause-each : goal.returns-clause-each
returns-clause-each c = (returns-clause-judged c).each
