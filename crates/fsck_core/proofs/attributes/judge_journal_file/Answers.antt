use Rattle.hfs_volume.specs.Records.{placed_in}
use Rattle.fsck_core.specs.Overflows.{overflows_in}
use Rattle.fsck_core.proofs.AttributeLaws.{file_adds, file_ok}
use Rattle.fsck_core.proofs.attributes.judge_journal_file.Goals as goal

pub returns-clause-decided : goal.returns-clause-decided
returns-clause-decided c span long spans =
    file_ok c.add_unless.result (placed_in c.args.pairs.now) (overflows_in c.args.overflow.now) c.args.name.now span c.in_ok-found.found c.in_ok-holds.holds c.id_found.result c.args.out.now c.add_unless.new.out
    (c.in_ok-found.ensures long) (c.in_ok-holds.ensures span spans) c.id_found.ensures c.add_unless.ensures.met c.add_unless.ensures.found c.add_unless.ensures.still c.add_unless.ensures.each

pub returns-clause-each : goal.returns-clause-each
returns-clause-each c span long spans =
    file_adds (placed_in c.args.pairs.now) (overflows_in c.args.overflow.now) c.args.name.now span c.in_ok-found.found c.in_ok-holds.holds c.id_found.result c.args.out.now c.add_unless.new.out
    (c.in_ok-found.ensures long) (c.in_ok-holds.ensures span spans) c.id_found.ensures c.add_unless.ensures.each
