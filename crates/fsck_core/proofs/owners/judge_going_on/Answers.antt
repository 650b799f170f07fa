use Rattle.std.proofs.Common.{◌≡◌, length, inl, refl}
use Rattle.hfs_volume.specs.Forks.{blocks_owned}
use Rattle.hfs_volume.specs.Blocks.{GoesOn}
use Rattle.fsck_core.specs.Overflows.{overflows_in}
use Rattle.fsck_core.specs.Owners.{owned_in}
use Rattle.fsck_core.specs.Owned.{FailsIn}
use Rattle.fsck_core.proofs.TestedLaws.{adds_of_test, tested_test, some_told}
use Rattle.fsck_core.proofs.owners.judge_going_on.Goals as goal

pub returns-clause-tested : goal.returns-clause-tested
returns-clause-tested c forks stands = tested_test c.add_unless.result (FailsIn forks (overflows_in c.args.rows.now)) (GoesOn (overflows_in c.args.rows.now) (owned_in c.args.owned.now)) c.args.owned.now.id c.is_some-goes_on.result c.args.out.now c.add_unless.new.out (some_told (λ blocks. blocks ≡ length (blocks_owned (overflows_in c.args.rows.now) (owned_in c.args.owned.now))) (GoesOn (overflows_in c.args.rows.now) (owned_in c.args.owned.now)) c.follow_own.result c.is_some-goes_on.result c.is_some-goes_on.ensures c.follow_own.ensures) (λ not_on. inl ((owned_in c.args.owned.now), stands, refl, not_on)) c.add_unless.ensures.met c.add_unless.ensures.found c.add_unless.ensures.still c.add_unless.ensures.each

pub returns-clause-each : goal.returns-clause-each
returns-clause-each c forks stands = adds_of_test (FailsIn forks (overflows_in c.args.rows.now)) (GoesOn (overflows_in c.args.rows.now) (owned_in c.args.owned.now)) c.args.owned.now.id c.is_some-goes_on.result c.args.out.now c.add_unless.new.out (some_told (λ blocks. blocks ≡ length (blocks_owned (overflows_in c.args.rows.now) (owned_in c.args.owned.now))) (GoesOn (overflows_in c.args.rows.now) (owned_in c.args.owned.now)) c.follow_own.result c.is_some-goes_on.result c.is_some-goes_on.ensures c.follow_own.ensures) (λ not_on. inl ((owned_in c.args.owned.now), stands, refl, not_on)) c.add_unless.ensures.each
