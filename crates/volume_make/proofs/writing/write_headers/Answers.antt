use Rattle.std.proofs.Common.{IsTrue, ◌∷◌, [], sym, subst}
use Rattle.std.proofs.lemmas.Result.{on_ok_weaker}
use Rattle.sector_disk.specs.Lists.{put_sectors}
use Rattle.sector_disk.specs.Disk.{content}
use Rattle.volume_make.proofs.Writes.{headers_written, settled_of}
use Rattle.volume_make.proofs.writing.write_headers.Goals as goal

pub returns-clause-written : goal.returns-clause-written
returns-clause-written g c t0 =
    let s0 = g.D.SectorDisk.state c.args.disk.now in
    let s1 = g.D.SectorDisk.state c.write_all_then_barrier.new.disk in
    let s2 = g.D.SectorDisk.state c.write_all_then_barrier-2.new.disk in
    let t1 = subst IsTrue (sym c.write_all_then_barrier.ensures.same.tells) t0 in
    on_ok_weaker c.write_all_then_barrier-2.result
    (λ w2. headers_written c.args.layout s0 s1 s2 c.header_sector-header.result c.requires.fitting (g.met.D.SectorDisk.well_formed c.args.disk.now) t0 c.requires.size
    (c.in_ok-write_all_then_barrier.ensures.settled t0) w2 c.header_sector-header.ensures)
    (c.write_all_then_barrier-2.ensures.settled t1)

pub returns-clause-settled : goal.returns-clause-settled
returns-clause-settled g c t0 =
    let s1 = g.D.SectorDisk.state c.write_all_then_barrier.new.disk in
    let s2 = g.D.SectorDisk.state c.write_all_then_barrier-2.new.disk in
    let t1 = subst IsTrue (sym c.write_all_then_barrier.ensures.same.tells) t0 in
    on_ok_weaker c.write_all_then_barrier-2.result (λ w2. settled_of s2 (put_sectors (content s1) 2 (c.header_sector-header.result ∷ [])) w2) (c.write_all_then_barrier-2.ensures.settled t1)
