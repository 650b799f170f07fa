use Rattle.std.proofs.Common.{arith}
use Rattle.hx_bytes.proofs.Writing.{written_none, written_number}
use Rattle.cat_records.proofs.entry.write_dates.Goals as goal

pub returns : goal.returns
returns c =
    let fields = c.args.fields.now in
    let none = written_none c.args.into.now 12 (omega arith) in
    let created = written_number _ 4 fields.created none c.write_be32.ensures in
    let changed = written_number _ 4 fields.changed created c.write_be32-2.ensures in
    let attribute = written_number _ 4 fields.attribute changed c.write_be32-3.ensures in
    let accessed = written_number _ 4 fields.accessed attribute c.write_be32-4.ensures in
    let backup = written_number _ 4 fields.backup accessed c.write_be32-5.ensures in
    record { written = backup.is; whole = backup.front_length }
