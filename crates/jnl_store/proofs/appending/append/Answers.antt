use Rattle.std.proofs.Common.{◌≡◌, ◌/◌, ◌∷◌, [], IsTrue, sym, ◌∙◌, ap, subst}
use Rattle.sector_disk.specs.Lists.{put_sectors}
use Rattle.sector_disk.specs.Disk.{CrashesLeave, Mixes, content, only}
use Rattle.jnl_ring.proofs.Bytes.{content_whole}
use Rattle.jnl_replay.specs.declared.plan.Plan.{Plan}
use Rattle.jnl_store.specs.Appending.{longer}
use Rattle.jnl_store.specs.Plan.{header_sector_of, with_text}
use Rattle.jnl_store.specs.InUse.{IsInUse}
use Rattle.jnl_store.proofs.Room.{longer_rest}
use Rattle.jnl_store.proofs.RingCommits.{begins, stage_header, stage_text}
use Rattle.jnl_store.proofs.appending.append.Goals as goal

pub returns-in_err-end-clause-crash : goal.returns-in_err-end-clause-crash
returns-in_err-end-clause-crash g c tells =
    let s0 = g.D.SectorDisk.state c.args.disk.now in
    let s1 = g.D.SectorDisk.state c.write_text.new.disk in
    let plan = c.args.plan.now in
    let puts = c.args.puts.now in
    let b = begins plan (c.requires.ready tells).0 puts s0 c.requires.rest (c.requires.ready tells).1 (g.met.D.SectorDisk.well_formed c.args.disk.now) c.requires.once c.requires.fits c.requires.room in
    stage_text plan puts s0 s1 b c.write_text.ensures.crash

pub returns-in_err-write_journal_header-clause-crash : goal.returns-in_err-write_journal_header-clause-crash
returns-in_err-write_journal_header-clause-crash g c tells =
    let s0 = g.D.SectorDisk.state c.args.disk.now in
    let s1 = g.D.SectorDisk.state c.write_text.new.disk in
    let s2 = g.D.SectorDisk.state c.write_journal_header.new.disk in
    let plan = c.args.plan.now in
    let puts = c.args.puts.now in
    let t = c.in_ok-end.ensures in
    let b = begins plan (c.requires.ready tells).0 puts s0 c.requires.rest (c.requires.ready tells).1 (g.met.D.SectorDisk.well_formed c.args.disk.now) c.requires.once c.requires.fits c.requires.room in
    let t1 : IsTrue s1.tells = c.write_text.ensures.same.tells ∙ tells in
    let next : c.next_plan-next.result ≡ longer plan puts = c.next_plan-next.ensures ∙ ap (λ n. with_text plan plan.header.start n) t.end in
    stage_header plan puts s0 s1 s2 b (content_whole s1 (g.met.D.SectorDisk.well_formed c.write_text.new.disk)) (t.puts tells) (t.settled tells) c.write_text.ensures.crash c.write_text.ensures.sink
    (subst (λ (p : Plan). CrashesLeave s1 s2 (Mixes s1.candidates (p.info.offset / 512) (header_sector_of p (content s1) ∷ []))) next (c.write_journal_header.ensures.crash t1))

pub returns-clause-crash : goal.returns-clause-crash
returns-clause-crash g c tells =
    let s0 = g.D.SectorDisk.state c.args.disk.now in
    let s1 = g.D.SectorDisk.state c.write_text.new.disk in
    let s2 = g.D.SectorDisk.state c.write_journal_header.new.disk in
    let plan = c.args.plan.now in
    let puts = c.args.puts.now in
    let t = c.in_ok-end.ensures in
    let b = begins plan (c.requires.ready tells).0 puts s0 c.requires.rest (c.requires.ready tells).1 (g.met.D.SectorDisk.well_formed c.args.disk.now) c.requires.once c.requires.fits c.requires.room in
    let t1 : IsTrue s1.tells = c.write_text.ensures.same.tells ∙ tells in
    let next : c.next_plan-next.result ≡ longer plan puts = c.next_plan-next.ensures ∙ ap (λ n. with_text plan plan.header.start n) t.end in
    stage_header plan puts s0 s1 s2 b (content_whole s1 (g.met.D.SectorDisk.well_formed c.write_text.new.disk)) (t.puts tells) (t.settled tells) c.write_text.ensures.crash c.write_text.ensures.sink
    (subst (λ (p : Plan). CrashesLeave s1 s2 (Mixes s1.candidates (p.info.offset / 512) (header_sector_of p (content s1) ∷ []))) next (c.write_journal_header.ensures.crash t1))

pub returns-clause-written : goal.returns-clause-written
returns-clause-written g c tells =
    let s1 = g.D.SectorDisk.state c.write_text.new.disk in
    let plan = c.args.plan.now in
    let puts = c.args.puts.now in
    let t = c.in_ok-end.ensures in
    let t1 : IsTrue s1.tells = c.write_text.ensures.same.tells ∙ tells in
    let next : c.next_plan-next.result ≡ longer plan puts = c.next_plan-next.ensures ∙ ap (λ n. with_text plan plan.header.start n) t.end in
    record {
      listed = content s1;
      whole = content_whole s1 (g.met.D.SectorDisk.well_formed c.write_text.new.disk);
      puts_in = t.puts tells;
      settled = c.in_ok-write_journal_header.ensures.settled t1 ∙ ap (λ (p : Plan). only (put_sectors (content s1) (p.info.offset / 512) (header_sector_of p (content s1) ∷ []))) next;
    }

pub returns-clause-rest : goal.returns-clause-rest
returns-clause-rest g c =
    let plan = c.args.plan.now in
    subst IsInUse (sym (c.next_plan-next.ensures ∙ ap (λ n. with_text plan plan.header.start n) c.in_ok-end.ensures.end)) (longer_rest plan c.args.puts.now c.requires.rest c.requires.room)
