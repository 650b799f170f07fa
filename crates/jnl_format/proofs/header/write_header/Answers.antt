use Rattle.std.proofs.Common.{◌∙◌, ap, arith, drop, List, ℕ}
use Rattle.jnl_format.specs.Header.{header_read, header_read_as, header_spelled}
use Rattle.jnl_format.proofs.Headers.{header_written}
use Rattle.jnl_format.proofs.ReadBack.{header_back, checksum_fits}
use Rattle.jnl_format.proofs.header.write_header.Goals as goal

pub returns-clause-bytes : goal.returns-clause-bytes
returns-clause-bytes c = header_written c.args.head.now c.checksum-sum.result c.args.into.now c.write_fields.new.into c.write_fields-2.new.into c.write_fields.ensures c.checksum-sum.ensures c.write_fields-2.ensures

pub returns-clause-read_back : goal.returns-clause-read_back
returns-clause-read_back c size small i =
    let h = c.args.head.now in
    ap (λ (b : List ℕ). header_read size b) (header_written h c.checksum-sum.result c.args.into.now c.write_fields.new.into c.write_fields-2.new.into c.write_fields.ensures c.checksum-sum.ensures c.write_fields-2.ensures)
    ∙ header_back h size (drop 44 c.args.into.now) i (record { start = omega (arith, i.start_high, small); end = omega (arith, i.end_high, small); size = omega (arith, i.size, small) }) (checksum_fits (header_spelled 0 h))

pub returns-clause-read_back_as : goal.returns-clause-read_back_as
returns-clause-read_back_as c dialect size small i =
    let h = c.args.head.now in
    ap (λ (b : List ℕ). header_read_as dialect size b) (header_written h c.checksum-sum.result c.args.into.now c.write_fields.new.into c.write_fields-2.new.into c.write_fields.ensures c.checksum-sum.ensures c.write_fields-2.ensures)
    ∙ header_back h size (drop 44 c.args.into.now) i (record { start = omega (arith, i.start_high, small); end = omega (arith, i.end_high, small); size = omega (arith, i.size, small) }) (checksum_fits (header_spelled 0 h))
