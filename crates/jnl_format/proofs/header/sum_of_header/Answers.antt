use Rattle.std.proofs.Common.{length, ap, arith}
use Rattle.std.proofs.lemmas.List.{length-take}
use Rattle.hx_bytes.specs.Field.{big}
use Rattle.hx_bytes.specs.declared.fields.Order.TheVariants.{Big}
use Rattle.hx_bytes.proofs.Laws.{length-put_at, length-number_bytes}
use Rattle.jnl_format.proofs.header.sum_of_header.Goals as goal

pub slice_bounds-checksum-end : goal.slice_bounds-checksum-end
slice_bounds-checksum-end c =
    omega (arith, length-take 44 c.write_be32.new.bytes, ap length c.write_be32.ensures, length-number_bytes Big 4 0, length-put_at c.args.sector.now (big 4 0) 36 (omega (arith, length-number_bytes Big 4 0, c.told-sector)), c.told-sector)
