use Rattle.std.proofs.Common.{arith}
use Rattle.hx_bytes.proofs.Writing.{written_none, written_number}
use Rattle.cat_records.proofs.entry.write_identity.Goals as goal

pub returns : goal.returns
returns c =
    let fields = c.args.fields.now in
    let none = written_none c.args.into.now 2 (omega arith) in
    let flags = written_number _ 2 fields.flags none c.write_be16.ensures in
    let count = written_number _ 4 fields.count flags c.write_be32.ensures in
    let id = written_number _ 4 fields.id count c.write_be32-2.ensures in
    record { written = id.is; whole = id.front_length }
