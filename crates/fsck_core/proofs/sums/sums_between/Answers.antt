use Rattle.std.proofs.Common.{◌+◌}
use Rattle.fsck_core.specs.Behind.{told_before}
use Rattle.fsck_core.proofs.BehindSums.{bits_between}
use Rattle.fsck_core.proofs.sums.sums_between.Goals as goal

pub returns : goal.returns
returns c content limit total per has =
    bits_between c.in-Some-find_sum.upto c.in-Some.before (told_before content limit total per (c.args.start + c.args.inside)) (told_before content limit total per c.args.start) c.saturating_sub.result c.saturating_sub.ensures
    (c.in-Some-find_sum.ensures content limit total per has) (c.in-Some.ensures content limit total per has)
