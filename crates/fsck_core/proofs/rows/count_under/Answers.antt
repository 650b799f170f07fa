use Rattle.std.proofs.Common.{◌∙◌}
use Rattle.fsck_core.proofs.RowLaws.{counted_between}
use Rattle.fsck_core.proofs.rows.count_under.Goals as goal

pub returns : goal.returns
returns c rises =
    c.saturating_sub.ensures ∙ counted_between c.args.rows.now c.args.parent c.rows_below-from.result c.rows_below-to.result c.rows_below-from.ensures.inside c.rows_below-to.ensures.inside
    (c.rows_below-from.ensures.point rises) (c.rows_below-to.ensures.point rises)
