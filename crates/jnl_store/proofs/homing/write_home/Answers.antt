use Rattle.std.proofs.Common.{◌≡◌, IsTrue, sym, ◌∙◌, ap, subst}
use Rattle.sector_disk.specs.Lists.{Content}
use Rattle.sector_disk.specs.Disk.{content, only}
use Rattle.sector_disk.proofs.Writing.{sink_after}
use Rattle.jnl_format.specs.Recovery.{replayed}
use Rattle.jnl_ring.proofs.RingLaws.{barrier_leaves}
use Rattle.jnl_replay.specs.Homing.{with_empty_header}
use Rattle.jnl_replay.specs.Plan.{FitsPlan, journal_of}
use Rattle.jnl_replay.proofs.Common.{on_ok}
use Rattle.jnl_replay.proofs.Fits.{fits_any}
use Rattle.jnl_replay.proofs.Stretches.{settled_content}
use Rattle.jnl_store.specs.Appending.{StandsStill}
use Rattle.jnl_store.proofs.RingHome.{stage_emptied, stage_homes}
use Rattle.jnl_store.proofs.RingKept.{lists_parts}
use Rattle.jnl_store.proofs.homing.write_home.Goals as goal

pub returns-in_err-bring_newest-clause-crash : goal.returns-in_err-bring_newest-clause-crash
returns-in_err-bring_newest-clause-crash g c tells =
    let s0 = g.D.SectorDisk.state c.args.disk.now in
    let s1 = g.D.SectorDisk.state c.bring_newest.new.disk in
    let plan = c.args.plan.now in
    let j = journal_of plan in
    let is = g.met.D.SectorDisk.well_formed c.args.disk.now in
    let k = (lists_parts plan c.args.live.now.homes s0 (c.requires.keeps tells)).text in
    stage_homes plan c.requires.rest s0 is k s1
    (c.bring_newest.ensures.crash tells)

pub returns-in_err-barrier-clause-crash : goal.returns-in_err-barrier-clause-crash
returns-in_err-barrier-clause-crash g c tells =
    let s0 = g.D.SectorDisk.state c.args.disk.now in
    let s1 = g.D.SectorDisk.state c.bring_newest.new.disk in
    let s2 = g.D.SectorDisk.state c.barrier.new.self in
    let plan = c.args.plan.now in
    let j = journal_of plan in
    let is = g.met.D.SectorDisk.well_formed c.args.disk.now in
    let k = (lists_parts plan c.args.live.now.homes s0 (c.requires.keeps tells)).text in
    let first = stage_homes plan c.requires.rest s0 is k s1
    (c.bring_newest.ensures.crash tells) in
    barrier_leaves c.barrier.result s0 s1 s2 (StandsStill plan s0) (g.met.D.SectorDisk.well_formed c.bring_newest.new.disk) first c.bring_newest.ensures.sink c.barrier.ensures.sink c.barrier.ensures.settled c.barrier.ensures.failed c.barrier.ensures.time

pub returns-clause-crash : goal.returns-clause-crash
returns-clause-crash g c tells =
    let s0 = g.D.SectorDisk.state c.args.disk.now in
    let s1 = g.D.SectorDisk.state c.bring_newest.new.disk in
    let s2 = g.D.SectorDisk.state c.barrier.new.self in
    let s3 = g.D.SectorDisk.state c.empty_journal.new.disk in
    let plan = c.args.plan.now in
    let j = journal_of plan in
    let is = g.met.D.SectorDisk.well_formed c.args.disk.now in
    let k = (lists_parts plan c.args.live.now.homes s0 (c.requires.keeps tells)).text in
    let first = stage_homes plan c.requires.rest s0 is k s1
    (c.bring_newest.ensures.crash tells) in
    let second = barrier_leaves c.barrier.result s0 s1 s2 (StandsStill plan s0) (g.met.D.SectorDisk.well_formed c.bring_newest.new.disk) first c.bring_newest.ensures.sink c.barrier.ensures.sink c.barrier.ensures.settled c.barrier.ensures.failed c.barrier.ensures.time in
    let home : content s1 ≡ replayed j (content s0) =
    c.in_ok-bring_newest.ensures.brought tells in
    let t2 : IsTrue s2.tells = c.barrier.ensures.same.tells ∙ c.bring_newest.ensures.same.tells ∙ tells in
    stage_emptied plan c.requires.rest s0 is k c.requires.fits tells s2 s3 second (sink_after s0 s1 s2 c.bring_newest.ensures.sink c.barrier.ensures.sink)
    (c.in_ok-barrier.ensures.settled ∙ ap only home) (settled_content s1 s2 c.in_ok-barrier.ensures.settled ∙ home) (c.empty_journal.ensures.crash t2)

pub returns-clause-home : goal.returns-clause-home
returns-clause-home g c tells =
    let s0 = g.D.SectorDisk.state c.args.disk.now in
    let s1 = g.D.SectorDisk.state c.bring_newest.new.disk in
    let s2 = g.D.SectorDisk.state c.barrier.new.self in
    let plan = c.args.plan.now in
    let j = journal_of plan in
    let is = g.met.D.SectorDisk.well_formed c.args.disk.now in
    let k = (lists_parts plan c.args.live.now.homes s0 (c.requires.keeps tells)).text in
    let home : content s1 ≡ replayed j (content s0) =
    c.in_ok-bring_newest.ensures.brought tells in
    let t2 : IsTrue s2.tells = c.barrier.ensures.same.tells ∙ c.bring_newest.ensures.same.tells ∙ tells in
    let now : content s2 ≡ replayed j (content s0) = settled_content s1 s2 c.in_ok-barrier.ensures.settled ∙ home in
    on_ok _ _ c.empty_journal.result (λ e. e ∙ ap (λ (d : Content). only (with_empty_header plan d)) now) (c.empty_journal.ensures.settled t2)

pub empty_journal-requires : goal.empty_journal-requires
empty_journal-requires g c =
    fits_any (g.D.SectorDisk.state c.barrier.new.self).sectors c.args.plan.now
    (subst (λ n. FitsPlan n c.args.plan.now) (sym (c.barrier.ensures.same.sectors ∙ c.bring_newest.ensures.same.sectors)) c.requires.fits)
