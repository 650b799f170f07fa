use Rattle.std.proofs.Common.{refl}
use Rattle.fsck_repair.proofs.AllLaws.{headers_there, skipped_none, skipped_some}
use Rattle.fsck_repair.proofs.HeaderLaws.{agreed}
use Rattle.fsck_repair.proofs.all.skipped_in.Goals as goal

pub returns-then-agrees : goal.returns-then-agrees
returns-then-agrees c content sectors counted =
    skipped_none content c.args.counts.now counted c.agrees.result _ c.if-agrees.true (agreed content c.args.counts.now.headers c.agrees.result (headers_there content c.args.counts.now counted) c.agrees.ensures) refl

pub returns : goal.returns
returns c content sectors counted =
    skipped_some content c.args.counts.now counted c.agrees.result _ c.args.sectors c.if-agrees.false (agreed content c.args.counts.now.headers c.agrees.result (headers_there content c.args.counts.now counted) c.agrees.ensures) sectors refl
