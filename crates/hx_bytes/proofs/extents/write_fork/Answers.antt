use Rattle.std.proofs.Common.{arith}
use Rattle.hx_bytes.specs.Fork.{extents_bytes, fork_bytes}
use Rattle.hx_bytes.proofs.Writing.{written_first, written_number, written_more}
use Rattle.hx_bytes.proofs.extents.write_fork.Goals as goal

pub returns : goal.returns
unfolding fork_bytes
returns c =
    let fork = c.args.fork.now in
    let logical_size = written_first c.args.bytes.now _ c.args.at 8 fork.logical_size (omega arith) c.write_be64.ensures in
    let clump_size = written_number _ 4 fork.clump_size logical_size c.write_be32.ensures in
    let total_blocks = written_number _ 4 fork.total_blocks clump_size c.write_be32-2.ensures in
    let extents = written_more _ (extents_bytes fork.extents) 64 total_blocks c.write_extents.ensures.whole c.write_extents.ensures.written in
    record { written = extents.is; whole = extents.front_length }
