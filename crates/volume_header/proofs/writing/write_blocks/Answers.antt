use Rattle.std.proofs.Common.{arith}
use Rattle.hx_bytes.proofs.Writing.{written_none, written_number}
use Rattle.volume_header.proofs.writing.write_blocks.Goals as goal

pub returns : goal.returns
returns c =
    let head = c.args.head.now in
    let none = written_none c.args.into.now 40 (omega arith) in
    let block_size = written_number _ 4 head.block_size none c.write_be32.ensures in
    let total_blocks = written_number _ 4 head.total_blocks block_size c.write_be32-2.ensures in
    let free_blocks = written_number _ 4 head.free_blocks total_blocks c.write_be32-3.ensures in
    let next_allocation = written_number _ 4 head.next_allocation free_blocks c.write_be32-4.ensures in
    let rsrc_clump_size = written_number _ 4 head.rsrc_clump_size next_allocation c.write_be32-5.ensures in
    let data_clump_size = written_number _ 4 head.data_clump_size rsrc_clump_size c.write_be32-6.ensures in
    record { written = data_clump_size.is; whole = data_clump_size.front_length }
