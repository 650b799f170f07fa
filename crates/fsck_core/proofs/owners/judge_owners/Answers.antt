use Rattle.std.proofs.Common.{[], arith}
use Rattle.hfs_volume.specs.Records.{Overflow}
use Rattle.hfs_volume.specs.Blocks.{HasFork}
use Rattle.fsck_core.specs.Overflows.{overflow_in, overflows_in}
use Rattle.fsck_core.specs.Owners.{owned_all}
use Rattle.fsck_core.specs.Owned.{FailsIn}
use Rattle.fsck_core.proofs.TestedLaws.{adds_two, tested_more, tested_begin, tested_all, stands_at}
use Rattle.fsck_core.proofs.owners.judge_owners.Goals as goal

pub loop-row-init : goal.loop-row-init
loop-row-init c = record { tested = tested_begin {Y = Overflow} (FailsIn (owned_all c.args.forks.now) (overflows_in c.args.rows.now)) (HasFork (owned_all c.args.forks.now)) c.args.out.now }

pub loop-row-preserved : goal.loop-row-preserved
loop-row-preserved c = record {
  tested = tested_more (FailsIn (owned_all c.args.forks.now) (overflows_in c.args.rows.now)) (HasFork (owned_all c.args.forks.now)) overflow_in c.args.rows.now c.loop-row.row-index (record { fork = 0; id = 0; start = 0; extents = record { extents = [] } }) c.args.out.now c.loop-row.out c.judge_owner.new.out c.loop-row.met c.in_ok-one.one c.both-met.result c.loop-row-test.true c.both-met.ensures
      c.loop-row.invariant.tested (c.in_ok-one.ensures.tested (overflows_in c.args.rows.now) (stands_at overflow_in c.args.rows.now c.loop-row.row-index (record { fork = 0; id = 0; start = 0; extents = record { extents = [] } }) c.loop-row-test.true));
}

pub returns-in_err-one-clause-each : goal.returns-in_err-one-clause-each
returns-in_err-one-clause-each c = adds_two (FailsIn (owned_all c.args.forks.now) (overflows_in c.args.rows.now)) c.args.out.now c.loop-row.out c.judge_owner.new.out c.loop-row.invariant.tested.each (c.judge_owner.ensures.each (overflows_in c.args.rows.now) (stands_at overflow_in c.args.rows.now c.loop-row.row-index (record { fork = 0; id = 0; start = 0; extents = record { extents = [] } }) c.loop-row-test.true))

pub returns-clause-tested : goal.returns-clause-tested
returns-clause-tested c = tested_all (FailsIn (owned_all c.args.forks.now) (overflows_in c.args.rows.now)) (HasFork (owned_all c.args.forks.now)) overflow_in c.args.rows.now c.loop-row.row-index c.args.out.now c.loop-row.out c.loop-row.met (omega (arith, c.loop-row-test.false)) c.loop-row.invariant.tested

pub returns-clause-each : goal.returns-clause-each
returns-clause-each c = (returns-clause-tested c).each
