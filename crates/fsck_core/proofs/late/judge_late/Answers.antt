use Rattle.std.proofs.Common.{sym}
use Rattle.hfs_volume.specs.Content.{records_of}
use Rattle.hfs_volume.specs.Records.{entries_of}
use Rattle.fsck_core.proofs.Joining.{late_passed, late_listed, counts_under}
use Rattle.fsck_core.proofs.late.judge_late.Goals as goal

pub returns-clause-passed : goal.returns-clause-passed
returns-clause-passed c volume head rows rise bits used =
    late_passed volume c.args.out.now c.judge_valences.new.out c.judge_counts.new.out c.judge_bits.new.out c.judge_free.new.out _ _ _ _
    (c.in_ok-judge_valences.ensures.judged (entries_of (records_of volume)) rows rise)
    (counts_under volume c.args.head.now c.judge_valences.new.out c.judge_counts.new.out _ head (c.in_ok-judge_counts.ensures.judged (entries_of (records_of volume)) rows))
    (c.in_ok-judge_bits.ensures.judged volume bits used)
    (c.in_ok-judge_free.ensures.judged volume (sym head) used)

pub returns-clause-listed : goal.returns-clause-listed
returns-clause-listed c volume head rows rise bits used =
    late_listed volume c.args.out.now c.judge_valences.new.out c.judge_counts.new.out c.judge_bits.new.out c.judge_free.new.out _ _ _ _
    (c.in_ok-judge_valences.ensures.judged (entries_of (records_of volume)) rows rise)
    (counts_under volume c.args.head.now c.judge_valences.new.out c.judge_counts.new.out _ head (c.in_ok-judge_counts.ensures.judged (entries_of (records_of volume)) rows))
    (c.in_ok-judge_bits.ensures.judged volume bits used)
    (c.in_ok-judge_free.ensures.judged volume (sym head) used)

pub returns-clause-still : goal.returns-clause-still
returns-clause-still c volume head rows rise bits used f listed =
    (c.in_ok-judge_free.ensures.judged volume (sym head) used).still f ((c.in_ok-judge_bits.ensures.judged volume bits used).still f
    ((c.in_ok-judge_counts.ensures.judged (entries_of (records_of volume)) rows).still f ((c.in_ok-judge_valences.ensures.judged (entries_of (records_of volume)) rows rise).still f listed)))
