use Rattle.std.proofs.Common.{◌∷◌, [], sym, ◌∙◌, ap, arith}
use Rattle.sector_disk.specs.Disk.{OnlyReads, content}
use Rattle.sector_disk.specs.Lists.{sector}
use Rattle.jnl_replay.proofs.Checks.{length-content}
use Rattle.jnl_replay.proofs.OneSector.{read_mixes, read_then_mixes}
use Rattle.hfs_serving.specs.Readying.{version_sector}
use Rattle.hfs_serving.proofs.Readied.{same_leaves, set_leaves}
use Rattle.hfs_serving.proofs.readying.set_version.Goals as goal

pub returns-then-keeps_journal-clause-crash : goal.returns-then-keeps_journal-clause-crash
returns-then-keeps_journal-clause-crash g c tells = same_leaves (g.D.SectorDisk.state c.args.disk.now) c.args.plan.now.place.last_mounted (c.requires.settled tells)

pub returns-in_err-read-clause-crash : goal.returns-in_err-read-clause-crash
returns-in_err-read-clause-crash g c tells =
    let s0 = g.D.SectorDisk.state c.args.disk.now in
    let s1 = g.D.SectorDisk.state c.read.new.self in
    let r = c.read.ensures in
    let reads : OnlyReads s0 s1 = record { candidates = r.candidates; barriers = r.barriers; faults = r.cause.later; same = r.same; sink = r.sink; time = r.time } in
    let long = length-content s0 (g.met.D.SectorDisk.well_formed c.args.disk.now) tells in
    set_leaves s0 s1 c.args.plan.now.place.last_mounted (sym c.keeps_journal.ensures ∙ c.if-keeps_journal.false) (omega (arith, long, c.requires.size)) (c.requires.settled tells) (read_mixes s0 s1 2 (version_sector (sector (content s0) 2) ∷ []) reads)

pub returns-clause-crash : goal.returns-clause-crash
returns-clause-crash g c tells =
    let s0 = g.D.SectorDisk.state c.args.disk.now in
    let s1 = g.D.SectorDisk.state c.read.new.self in
    let s2 = g.D.SectorDisk.state c.write_all_then_barrier.new.disk in
    let r = c.read.ensures in
    let reads : OnlyReads s0 s1 = record { candidates = r.candidates; barriers = r.barriers; faults = r.cause.later; same = r.same; sink = r.sink; time = r.time } in
    let long = length-content s0 (g.met.D.SectorDisk.well_formed c.args.disk.now) tells in
    set_leaves s0 s2 c.args.plan.now.place.last_mounted (sym c.keeps_journal.ensures ∙ c.if-keeps_journal.false) (omega (arith, long, c.requires.size)) (c.requires.settled tells)
    (read_then_mixes s0 s1 s2 2 c.with_version.result (version_sector (sector (content s0) 2)) reads (c.with_version.ensures ∙ ap version_sector (c.in_ok-read.ensures.value tells)) c.write_all_then_barrier.ensures.crash)
