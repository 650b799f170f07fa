use Rattle.std.proofs.Common.{arith}
use Rattle.hx_bytes.specs.Fork.{fork_bytes}
use Rattle.hx_bytes.proofs.Writing.{written_none, written_more}
use Rattle.volume_header.proofs.writing.write_forks.Goals as goal

pub returns : goal.returns
returns c =
    let head = c.args.head.now in
    let none = written_none c.args.into.now 112 (omega arith) in
    let allocation = written_more _ (fork_bytes head.allocation_fork) 80 none c.write_fork.ensures.whole c.write_fork.ensures.written in
    let extents = written_more _ (fork_bytes head.extents_fork) 80 allocation c.write_fork-2.ensures.whole c.write_fork-2.ensures.written in
    let catalog = written_more _ (fork_bytes head.catalog_fork) 80 extents c.write_fork-3.ensures.whole c.write_fork-3.ensures.written in
    let attributes = written_more _ (fork_bytes head.attributes_fork) 80 catalog c.write_fork-4.ensures.whole c.write_fork-4.ensures.written in
    let startup = written_more _ (fork_bytes head.startup_fork) 80 attributes c.write_fork-5.ensures.whole c.write_fork-5.ensures.written in
    record { written = startup.is; whole = startup.front_length }
