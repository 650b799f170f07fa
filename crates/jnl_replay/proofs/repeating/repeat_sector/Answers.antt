use Rattle.std.proofs.Common.{◌∙◌}
use Rattle.sector_disk.specs.Disk.{OnlyReads}
use Rattle.jnl_replay.proofs.Common.{on_ok}
use Rattle.jnl_replay.proofs.Repeated.{repeated_at, repeats_of, repeats_read, values_written}
use Rattle.jnl_replay.proofs.repeating.repeat_sector.Goals as goal

pub returns-in_err-read-clause-repeats : goal.returns-in_err-read-clause-repeats
returns-in_err-read-clause-repeats g c tells =
    let r = c.read.ensures in
    repeats_read (g.D.SectorDisk.state c.args.disk.now) (g.D.SectorDisk.state c.read.new.self) (record { candidates = r.candidates; barriers = r.barriers; faults = r.cause.later; same = r.same; sink = r.sink; time = r.time })

pub returns-clause-written : goal.returns-clause-written
returns-clause-written g c tells =
    let s0 = g.D.SectorDisk.state c.args.disk.now in
    let s1 = g.D.SectorDisk.state c.read.new.self in
    let s2 = g.D.SectorDisk.state c.write.new.self in
    let r = c.read.ensures in
    let reads : OnlyReads s0 s1 = record { candidates = r.candidates; barriers = r.barriers; faults = r.cause.later; same = r.same; sink = r.sink; time = r.time } in
    on_ok _ _ c.write.result (λ is. is ∙ repeated_at s0 s1 s2 c.args.at c.read.new.into (g.met.D.SectorDisk.well_formed c.args.disk.now) c.requires tells reads (c.in_ok-read.ensures.value tells)) c.write.ensures.written

pub returns-clause-repeats : goal.returns-clause-repeats
returns-clause-repeats g c tells =
    let s0 = g.D.SectorDisk.state c.args.disk.now in
    let s1 = g.D.SectorDisk.state c.read.new.self in
    let s2 = g.D.SectorDisk.state c.write.new.self in
    let r = c.read.ensures in
    let reads : OnlyReads s0 s1 = record { candidates = r.candidates; barriers = r.barriers; faults = r.cause.later; same = r.same; sink = r.sink; time = r.time } in
    repeats_of s0 s1 s2 reads c.write.ensures.time c.write.ensures.sink
    (values_written s0 s1 s2 c.args.at c.read.new.into (g.met.D.SectorDisk.well_formed c.args.disk.now) c.requires tells reads (c.in_ok-read.ensures.value tells) c.write.result c.write.ensures.written c.write.ensures.unsure)
