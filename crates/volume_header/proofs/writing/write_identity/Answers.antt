use Rattle.std.proofs.Common.{arith}
use Rattle.hx_bytes.proofs.Writing.{written_none, written_number}
use Rattle.volume_header.proofs.writing.write_identity.Goals as goal

pub returns : goal.returns
returns c =
    let head = c.args.head.now in
    let none = written_none c.args.into.now 0 (omega arith) in
    let signature = written_number _ 2 head.signature none c.write_be16.ensures in
    let version = written_number _ 2 head.version signature c.write_be16-2.ensures in
    let attributes = written_number _ 4 head.attributes version c.write_be32.ensures in
    let last_mounted_version = written_number _ 4 head.last_mounted_version attributes c.write_be32-2.ensures in
    let journal_info_block = written_number _ 4 head.journal_info_block last_mounted_version c.write_be32-3.ensures in
    record { written = journal_info_block.is; whole = journal_info_block.front_length }
