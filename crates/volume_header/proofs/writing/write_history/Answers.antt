use Rattle.std.proofs.Common.{arith}
use Rattle.hx_bytes.proofs.Writing.{written_none, written_number}
use Rattle.volume_header.proofs.writing.write_history.Goals as goal

pub returns : goal.returns
returns c =
    let head = c.args.head.now in
    let none = written_none c.args.into.now 16 (omega arith) in
    let create_date = written_number _ 4 head.create_date none c.write_be32.ensures in
    let modify_date = written_number _ 4 head.modify_date create_date c.write_be32-2.ensures in
    let backup_date = written_number _ 4 head.backup_date modify_date c.write_be32-3.ensures in
    let checked_date = written_number _ 4 head.checked_date backup_date c.write_be32-4.ensures in
    let file_count = written_number _ 4 head.file_count checked_date c.write_be32-5.ensures in
    let folder_count = written_number _ 4 head.folder_count file_count c.write_be32-6.ensures in
    record { written = folder_count.is; whole = folder_count.front_length }
