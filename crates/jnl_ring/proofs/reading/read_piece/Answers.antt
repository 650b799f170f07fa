use Rattle.std.proofs.Common.{arith, rules, ◌≤◌, ◌+◌, ◌%◌}
use Rattle.std.proofs.Common.{drop}
use Rattle.sector_disk.specs.Disk.{content}
use Rattle.jnl_ring.proofs.Bytes.{disk_has}
use Rattle.jnl_ring.proofs.Pieces.{piece_bytes}
use Rattle.jnl_ring.proofs.reading.read_piece.Goals as goal

pub returns-clause-bytes : goal.returns-clause-bytes
returns-clause-bytes g c tells =
    let disk = g.D.SectorDisk.state c.args.disk.now in
    let span = c.args.span.now in
    let has = disk_has disk span.base span.size (g.met.D.SectorDisk.well_formed c.args.disk.now) tells c.requires.on_disk c.requires.span.whole in
    let fits : c.args.offset % 512 + c.min-count.result ≤ 512 = omega arith in
    piece_bytes span.base span.size (content disk) c.args.offset c.min-count.result c.read.new.into c.copy_from_slice.new.self (drop c.min-count.result c.args.into.now)
    has c.requires.offset.inside (c.in_ok-read.ensures.value tells) (search rules) fits
