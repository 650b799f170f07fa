use Rattle.std.proofs.Common.{◌∙◌}
use Rattle.fsck_core.proofs.NumberLaws.{numbers_between}
use Rattle.fsck_core.proofs.numbers.count_number.Goals as goal

pub returns : goal.returns
returns c rises =
    c.saturating_sub.ensures ∙ numbers_between c.args.numbers.now c.args.number c.numbers_below-from.result c.numbers_below-to.result c.numbers_below-from.ensures.inside c.numbers_below-to.ensures.inside
    (c.numbers_below-from.ensures.point rises) (c.numbers_below-to.ensures.point rises)
