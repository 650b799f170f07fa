use Rattle.std.proofs.Common.{[], arith}
use Rattle.hfs_volume.specs.Forks.{Owned}
use Rattle.hfs_volume.specs.Blocks.{GoesOn}
use Rattle.fsck_core.specs.Overflows.{overflows_in}
use Rattle.fsck_core.specs.Owners.{owned_in, owned_all}
use Rattle.fsck_core.specs.Owned.{FailsIn}
use Rattle.fsck_core.proofs.TestedLaws.{adds_two, tested_more, tested_begin, tested_all, stands_at}
use Rattle.fsck_core.proofs.owners.judge_all_going_on.Goals as goal

pub loop-owned-init : goal.loop-owned-init
loop-owned-init c = record { tested = tested_begin {Y = Owned} (FailsIn (owned_all c.args.forks.now) (overflows_in c.args.rows.now)) (GoesOn (overflows_in c.args.rows.now)) c.args.out.now }

pub loop-owned-preserved : goal.loop-owned-preserved
loop-owned-preserved c = record {
  tested = tested_more (FailsIn (owned_all c.args.forks.now) (overflows_in c.args.rows.now)) (GoesOn (overflows_in c.args.rows.now)) owned_in c.args.forks.now c.loop-owned.owned-index (record { id = 0; kind = 0; fork = record { logical_size = 0; clump_size = 0; total_blocks = 0; extents = record { extents = [] } } }) c.args.out.now c.loop-owned.out c.judge_going_on.new.out c.loop-owned.met c.in_ok-one.one c.both-met.result c.loop-owned-test.true c.both-met.ensures
      c.loop-owned.invariant.tested (c.in_ok-one.ensures.tested (owned_all c.args.forks.now) (stands_at owned_in c.args.forks.now c.loop-owned.owned-index (record { id = 0; kind = 0; fork = record { logical_size = 0; clump_size = 0; total_blocks = 0; extents = record { extents = [] } } }) c.loop-owned-test.true));
}

pub returns-in_err-one-clause-each : goal.returns-in_err-one-clause-each
returns-in_err-one-clause-each c = adds_two (FailsIn (owned_all c.args.forks.now) (overflows_in c.args.rows.now)) c.args.out.now c.loop-owned.out c.judge_going_on.new.out c.loop-owned.invariant.tested.each (c.judge_going_on.ensures.each (owned_all c.args.forks.now) (stands_at owned_in c.args.forks.now c.loop-owned.owned-index (record { id = 0; kind = 0; fork = record { logical_size = 0; clump_size = 0; total_blocks = 0; extents = record { extents = [] } } }) c.loop-owned-test.true))

pub returns-clause-tested : goal.returns-clause-tested
returns-clause-tested c = tested_all (FailsIn (owned_all c.args.forks.now) (overflows_in c.args.rows.now)) (GoesOn (overflows_in c.args.rows.now)) owned_in c.args.forks.now c.loop-owned.owned-index c.args.out.now c.loop-owned.out c.loop-owned.met (omega (arith, c.loop-owned-test.false)) c.loop-owned.invariant.tested

pub returns-clause-each : goal.returns-clause-each
returns-clause-each c = (returns-clause-tested c).each
