use Rattle.std.proofs.Common.{inr, refl}
use Rattle.hfs_volume.specs.Blocks.{HasFork}
use Rattle.fsck_core.specs.Overflows.{overflow_in}
use Rattle.fsck_core.specs.Owners.{owned_all}
use Rattle.fsck_core.specs.Owned.{FailsIn}
use Rattle.fsck_core.proofs.TestedLaws.{adds_of_test, tested_test, owner_tells}
use Rattle.fsck_core.proofs.owners.judge_owner.Goals as goal

pub returns-clause-tested : goal.returns-clause-tested
returns-clause-tested c overflow stands = tested_test c.add_unless.result (FailsIn (owned_all c.args.forks.now) overflow) (HasFork (owned_all c.args.forks.now) (overflow_in c.args.row.now)) c.args.row.now.id c.has_fork-has.result c.args.out.now c.add_unless.new.out (owner_tells c.args.forks.now c.args.row.now c.has_fork-has.result c.has_fork-has.ensures) (λ none. inr (inr (overflow_in c.args.row.now, stands, refl, none))) c.add_unless.ensures.met c.add_unless.ensures.found c.add_unless.ensures.still c.add_unless.ensures.each

pub returns-clause-each : goal.returns-clause-each
returns-clause-each c overflow stands = adds_of_test (FailsIn (owned_all c.args.forks.now) overflow) (HasFork (owned_all c.args.forks.now) (overflow_in c.args.row.now)) c.args.row.now.id c.has_fork-has.result c.args.out.now c.add_unless.new.out (owner_tells c.args.forks.now c.args.row.now c.has_fork-has.result c.has_fork-has.ensures) (λ none. inr (inr (overflow_in c.args.row.now, stands, refl, none))) c.add_unless.ensures.each
