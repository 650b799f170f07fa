use Rattle.std.proofs.Common.{[], arith}
use Rattle.fsck_core.specs.Owners.{row_wants}
use Rattle.fsck_core.proofs.JudgedLaws.{judged_none, judged_more, judged_all, adds_more}
use Rattle.fsck_core.proofs.forks.judge_rows.Goals as goal

pub loop-row-init : goal.loop-row-init
loop-row-init c = record { judged = judged_none 16 c.args.out.now }

pub loop-row-preserved : goal.loop-row-preserved
loop-row-preserved c = record {
  judged = judged_more 16 (row_wants c.args.total) c.args.rows.now c.loop-row.row-index (record { fork = 0; id = 0; start = 0; extents = record { extents = [] } }) c.args.out.now c.loop-row.out c.judge_extents.new.out c.loop-row.met c.in_ok-one.one c.both-met.result c.loop-row-test.true c.both-met.ensures
      c.loop-row.invariant.judged c.in_ok-one.ensures.judged;
}

pub returns-in_err-one-clause-each : goal.returns-in_err-one-clause-each
returns-in_err-one-clause-each c = adds_more 16 (row_wants c.args.total) c.args.rows.now c.loop-row.row-index (record { fork = 0; id = 0; start = 0; extents = record { extents = [] } }) c.args.out.now c.loop-row.out c.judge_extents.new.out c.loop-row-test.true c.loop-row.invariant.judged.each c.judge_extents.ensures.each

pub returns-clause-judged : goal.returns-clause-judged
returns-clause-judged c = judged_all 16 (row_wants c.args.total) c.args.rows.now c.loop-row.row-index c.args.out.now c.loop-row.out c.loop-row.met (omega (arith, c.loop-row-test.false)) c.loop-row.invariant.judged

pub returns-clause-each : goal.returns-clause-each
returns-clause-each c = (returns-clause-judged c).each
