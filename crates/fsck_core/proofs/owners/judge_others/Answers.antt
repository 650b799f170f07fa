use Rattle.std.specs.Prelude.{All}
use Rattle.hfs_volume.specs.Blocks.{GoOnBad, HasFork}
use Rattle.fsck_core.specs.Overflows.{overflows_in}
use Rattle.fsck_core.specs.Owners.{owned_all}
use Rattle.fsck_core.specs.Owned.{FailsIn}
use Rattle.fsck_core.proofs.TestedLaws.{adds_two, tested_both}
use Rattle.fsck_core.proofs.owners.judge_others.Goals as goal

pub returns-in_err-one-clause-each : goal.returns-in_err-one-clause-each
returns-in_err-one-clause-each c = (c.judge_bad.ensures.each (owned_all c.args.forks.now))

pub returns-in_err-other-clause-each : goal.returns-in_err-other-clause-each
returns-in_err-other-clause-each c = adds_two (FailsIn (owned_all c.args.forks.now) (overflows_in c.args.rows.now)) c.args.out.now c.judge_bad.new.out c.judge_rows_owners.new.out (c.judge_bad.ensures.each (owned_all c.args.forks.now)) c.judge_rows_owners.ensures.each

pub returns-clause-tested : goal.returns-clause-tested
returns-clause-tested c = tested_both (FailsIn (owned_all c.args.forks.now) (overflows_in c.args.rows.now)) (GoOnBad (overflows_in c.args.rows.now)) (All (HasFork (owned_all c.args.forks.now)) (overflows_in c.args.rows.now)) c.args.out.now c.judge_bad.new.out c.judge_rows_owners.new.out c.in_ok-one.one c.in_ok-other.other c.both.result c.both.ensures (c.in_ok-one.ensures.tested (owned_all c.args.forks.now)) c.in_ok-other.ensures.tested

pub returns-clause-each : goal.returns-clause-each
returns-clause-each c = (returns-clause-tested c).each
