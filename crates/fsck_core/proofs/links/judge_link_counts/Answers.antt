use Rattle.std.proofs.Common.{arith}
use Rattle.fsck_core.specs.Links.{link_want}
use Rattle.fsck_core.proofs.JudgedLaws.{judged_none, judged_more, judged_all, adds_more}
use Rattle.fsck_core.proofs.links.judge_link_counts.Goals as goal

pub loop-file-init : goal.loop-file-init
loop-file-init c = record { judged = λ rises. judged_none 19 c.args.out.now }

pub loop-file-preserved : goal.loop-file-preserved
loop-file-preserved c = record {
  judged = λ rises. judged_more 19 (link_want c.args.links.now) c.args.files.now c.loop-file.file-index (record { reference = 0; id = 0; links = 0 }) c.args.out.now c.loop-file.out c.judge_count.new.out c.loop-file.met c.in_ok-one.one c.both-met.result
      c.loop-file-test.true c.both-met.ensures (c.loop-file.invariant.judged rises) (c.in_ok-one.ensures.judged rises);
}

pub returns-in_err-one-clause-each : goal.returns-in_err-one-clause-each
returns-in_err-one-clause-each c rises =
    adds_more 19 (link_want c.args.links.now) c.args.files.now c.loop-file.file-index (record { reference = 0; id = 0; links = 0 }) c.args.out.now c.loop-file.out c.judge_count.new.out c.loop-file-test.true (c.loop-file.invariant.judged rises).each (c.judge_count.ensures.each rises)

pub returns-clause-judged : goal.returns-clause-judged
returns-clause-judged c rises =
    judged_all 19 (link_want c.args.links.now) c.args.files.now c.loop-file.file-index c.args.out.now c.loop-file.out c.loop-file.met (omega (arith, c.loop-file-test.false)) (c.loop-file.invariant.judged rises)

pub returns-clause-each : goal.returns-clause-each
returns-clause-each c rises = (returns-clause-judged c rises).each
