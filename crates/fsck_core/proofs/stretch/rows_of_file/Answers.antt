use Rattle.std.proofs.Common.{refl, arith}
use Rattle.fsck_core.proofs.StretchLaws.{stretch_keeps_all}
use Rattle.fsck_core.proofs.stretch.rows_of_file.Goals as goal

pub returns : goal.returns
returns c kind =
    let rises = c.requires c.if-not-in_order.false in
    stretch_keeps_all c.args.rows.now _ c.args.id kind c.rows_below-from.result c.rows_below-to.result (omega (arith, c.if-from-to.false)) c.rows_below-to.ensures.inside refl (c.rows_below-from.ensures.point rises) (c.rows_below-to.ensures.point rises)
