use Rattle.std.proofs.Common.{ℕ, List, get_or, sym, ap}
use Rattle.sector_disk.specs.Disk.{content}
use Rattle.jnl_replay.specs.Viewing.{shown}
use Rattle.hfsx_server.proofs.Checked.{judges_of}
use Rattle.hfsx_server.proofs.checking.judge_through.Goals as goal

pub returns-clause-judged : goal.returns-clause-judged
returns-clause-judged g c tells bytes =
    let s0 = g.D.SectorDisk.state c.args.disk.now in
    judges_of (shown c.args.peek.now s0.sectors (content s0)) c.check.result (c.check.ensures.sound tells bytes) (c.check.ensures.counted tells bytes) (c.check.ensures.some tells bytes) (c.check.ensures.broken tells bytes) (c.check.ensures.each_rule tells bytes) (λ early. c.check.ensures.listed tells bytes early)

pub returns-clause-reads : goal.returns-clause-reads
returns-clause-reads g c =
    let disk_is = c.disk-1.given.1 (sym (ap (λ (l : List ℕ). get_or l 0 0) c.check.ensures.reads.same.names)) in
    rw disk_is c.check.ensures.below.reads

pub returns-clause-cause : goal.returns-clause-cause
returns-clause-cause g c =
    let disk_is = c.disk-1.given.1 (sym (ap (λ (l : List ℕ). get_or l 0 0) c.check.ensures.reads.same.names)) in
    record { later = rw disk_is c.check.ensures.below.reads.faults; rose = rw disk_is c.check.ensures.disk }
