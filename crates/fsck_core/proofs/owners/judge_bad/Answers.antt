use Rattle.std.proofs.Common.{true, inl, inr, refl}
use Rattle.hfs_volume.specs.Forks.{bad_blocks_id}
use Rattle.hfs_volume.specs.Blocks.{GoOn, GoOnBad}
use Rattle.fsck_core.specs.Overflows.{overflows_in}
use Rattle.fsck_core.specs.Owned.{FailsIn}
use Rattle.fsck_core.proofs.OwnerLaws.{mine}
use Rattle.fsck_core.proofs.TestedLaws.{adds_of_test, tested_test, both_told}
use Rattle.fsck_core.proofs.owners.judge_bad.Goals as goal

pub returns-clause-tested : goal.returns-clause-tested
returns-clause-tested c forks = tested_test c.add_unless.result (FailsIn forks (overflows_in c.args.rows.now)) (GoOnBad (overflows_in c.args.rows.now)) bad_blocks_id c.both.result c.args.out.now c.add_unless.new.out (both_told (GoOn 0 true (mine bad_blocks_id 0 c.args.rows.now)) (GoOn 0 true (mine bad_blocks_id 255 c.args.rows.now)) c.bad_goes_on-data.result c.bad_goes_on-resource.result c.both.result c.both.ensures c.bad_goes_on-data.ensures c.bad_goes_on-resource.ensures) (λ not_on. inr (inl (refl, not_on))) c.add_unless.ensures.met c.add_unless.ensures.found c.add_unless.ensures.still c.add_unless.ensures.each

pub returns-clause-each : goal.returns-clause-each
returns-clause-each c forks = adds_of_test (FailsIn forks (overflows_in c.args.rows.now)) (GoOnBad (overflows_in c.args.rows.now)) bad_blocks_id c.both.result c.args.out.now c.add_unless.new.out (both_told (GoOn 0 true (mine bad_blocks_id 0 c.args.rows.now)) (GoOn 0 true (mine bad_blocks_id 255 c.args.rows.now)) c.bad_goes_on-data.result c.bad_goes_on-resource.result c.both.result c.both.ensures c.bad_goes_on-data.ensures c.bad_goes_on-resource.ensures) (λ not_on. inr (inl (refl, not_on))) c.add_unless.ensures.each
