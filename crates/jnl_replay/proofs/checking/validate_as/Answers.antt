use Rattle.sector_disk.specs.Disk.{content}
use Rattle.jnl_replay.proofs.Checks.{plan_recovers, refuse_journal, refuse_text}
use Rattle.jnl_replay.proofs.ReadOn.{same_content, tells_then}
use Rattle.jnl_replay.proofs.checking.validate_as.Goals as goal

pub returns-in-Err-clause-refused : goal.returns-in-Err-clause-refused
returns-in-Err-clause-refused g c tells =
    refuse_journal c.args.dialect (content (g.D.SectorDisk.state c.args.disk.now)) c.args.place.now c.in-Err.fault (c.requires.place tells) (c.in-Err.ensures.refused tells)

pub returns-in-Err-check_text-clause-refused : goal.returns-in-Err-check_text-clause-refused
returns-in-Err-check_text-clause-refused g c tells =
    let s0 = g.D.SectorDisk.state c.args.disk.now in
    let s1 = g.D.SectorDisk.state c.find_journal.new.disk in
    let reads = c.find_journal.ensures.reads in
    let found = c.in-Ok.ensures.plan tells in
    refuse_text c.args.dialect (content s0) (content s1) c.args.place.now c.in-Ok.plan c.in-Err-check_text.fault (c.requires.place tells) (same_content s0 s1 reads) found.1 found.0
    (c.in-Err-check_text.ensures.refused (tells_then s0 s1 reads tells))

pub returns-in-Ok-check_text-clause-recovered : goal.returns-in-Ok-check_text-clause-recovered
returns-in-Ok-check_text-clause-recovered g c tells =
    let s0 = g.D.SectorDisk.state c.args.disk.now in
    let s1 = g.D.SectorDisk.state c.find_journal.new.disk in
    let reads = c.find_journal.ensures.reads in
    let found = c.in-Ok.ensures.plan tells in
    plan_recovers c.args.dialect (content s0) (content s1) c.args.place.now c.in-Ok.plan (c.requires.place tells) (same_content s0 s1 reads) found.1 found.0 (c.in-Ok-check_text.ensures.sound (tells_then s0 s1 reads tells))
