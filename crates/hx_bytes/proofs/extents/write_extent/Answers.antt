use Rattle.std.proofs.Common.{◌+◌, ◌∙◌, ap, arith}
use Rattle.hx_bytes.specs.Field.{put_at, big}
use Rattle.hx_bytes.specs.declared.fields.Order.TheVariants.{Big}
use Rattle.hx_bytes.proofs.Laws.{length-number_bytes}
use Rattle.hx_bytes.proofs.Putting.{put_at-next}
use Rattle.hx_bytes.proofs.extents.write_extent.Goals as goal

pub returns : goal.returns
returns c = c.write_be32-2.ensures ∙ ap (λ l. put_at l (c.args.at + 4) (big 4 c.args.extent.count)) c.write_be32.ensures ∙ put_at-next c.args.bytes.now (big 4 c.args.extent.start) (big 4 c.args.extent.count) c.args.at (c.args.at + 4) (omega arith) (omega (arith, length-number_bytes Big 4 c.args.extent.start))
