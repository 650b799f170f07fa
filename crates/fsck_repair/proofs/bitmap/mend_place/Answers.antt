use Rattle.fsck_repair.proofs.BitSteps.{plain_noted}
use Rattle.fsck_repair.proofs.bitmap.mend_place.Goals as goal

pub returns-clause-notes : goal.returns-clause-notes
returns-clause-notes g c content few shows skipped mends =
    plain_noted c.mend_bits.result content c.args.at c.args.changes.now.items c.mend_bits.new.changes.items (c.mend_bits.ensures.notes content few shows (mends (c.has.ensures.plain content skipped c.if-has.false)))
