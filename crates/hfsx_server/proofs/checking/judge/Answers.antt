use Rattle.std.proofs.Common.{◌≡◌, ◌∙◌, Ok, sym, ap, subst}
use Rattle.sector_disk.specs.Disk.{content}
use Rattle.sector_disk.proofs.Writing.{reads_both}
use Rattle.jnl_format.specs.Recovery.{Content, recovery, replayed}
use Rattle.jnl_replay.specs.Plan.{journal_of}
use Rattle.jnl_replay.specs.Peeking.{peeked}
use Rattle.jnl_replay.specs.Viewing.{shown}
use Rattle.jnl_replay.proofs.Checks.{length-content}
use Rattle.jnl_replay.proofs.ReadOn.{same_content}
use Rattle.hfs_volume.specs.Findings.{HasBytes}
use Rattle.hfsx_server.specs.Checking.{Judges}
use Rattle.hfsx_server.proofs.Bytes.{content_bytes, replayed_bytes}
use Rattle.hfsx_server.proofs.Checked.{stands_for}
use Rattle.hfsx_server.proofs.Finding.{shown_is}
use Rattle.hfsx_server.proofs.checking.judge.Goals as goal

pub returns-in_err-judge_through-clause-reads : goal.returns-in_err-judge_through-clause-reads
returns-in_err-judge_through-clause-reads g c =
    let s0 = g.D.SectorDisk.state c.args.disk.now in
    let s1 = g.D.SectorDisk.state c.find_header.new.disk in
    let s2 = g.D.SectorDisk.state c.find_journal.new.disk in
    let s3 = g.D.SectorDisk.state c.new.new.disk in
    let s4 = g.D.SectorDisk.state c.judge_through.new.disk in
    reads_both s0 s1 s4 c.find_header.ensures.reads (reads_both s1 s2 s4 c.find_journal.ensures.reads (reads_both s2 s3 s4 c.new.ensures.reads c.judge_through.ensures.reads))

pub returns-clause-reads : goal.returns-clause-reads
returns-clause-reads g c =
    let s0 = g.D.SectorDisk.state c.args.disk.now in
    let s1 = g.D.SectorDisk.state c.find_header.new.disk in
    let s2 = g.D.SectorDisk.state c.find_journal.new.disk in
    let s3 = g.D.SectorDisk.state c.new.new.disk in
    let s4 = g.D.SectorDisk.state c.judge_through.new.disk in
    reads_both s0 s1 s4 c.find_header.ensures.reads (reads_both s1 s2 s4 c.find_journal.ensures.reads (reads_both s2 s3 s4 c.new.ensures.reads c.judge_through.ensures.reads))

pub returns-clause-judged : goal.returns-clause-judged
returns-clause-judged g c tells =
    let s0 = g.D.SectorDisk.state c.args.disk.now in
    let s1 = g.D.SectorDisk.state c.find_header.new.disk in
    let s2 = g.D.SectorDisk.state c.find_journal.new.disk in
    let s3 = g.D.SectorDisk.state c.new.new.disk in
    let c0 = content s0 in
    let journal = journal_of c.in_ok-plan.plan in
    let r = replayed journal c0 in
    let r1 = c.find_header.ensures.reads in
    let r2 = c.find_journal.ensures.reads in
    let r3 = c.new.ensures.reads in
    let t1 = r1.same.tells ∙ tells in
    let t2 = r2.same.tells ∙ t1 in
    let t3 = r3.same.tells ∙ t2 in
    let same1 : content s1 ≡ c0 = same_content s0 s1 r1 in
    let same2 : content s2 ≡ c0 = same_content s1 s2 r2 ∙ same1 in
    let same3 : content s3 ≡ c0 = same_content s2 s3 r3 ∙ same2 in
    let wf = g.met.D.SectorDisk.well_formed c.args.disk.now in
    let recovers : recovery c0 ≡ Ok r = subst (λ (d : Content). recovery d ≡ Ok (replayed journal d)) same1 (c.in_ok-plan.ensures.recovers t1) in
    let peek = c.in_ok-peek.peek in
    let shows : peeked peek c0 ≡ r = subst (λ (d : Content). peeked peek d ≡ replayed journal d) same2 (c.in_ok-peek.ensures.shows t2) in
    let view : shown peek s3.sectors (content s3) ≡ r = ap (shown peek s3.sectors) same3 ∙ shown_is peek s3.sectors c0 r (c.in_ok-peek.ensures.sectors ∙ sym r3.same.sectors) shows in
    let bytes : HasBytes r = replayed_bytes journal c0 (content_bytes s0 wf) in (
      r,
      stands_for c0 c.in_ok-header.header s0.sectors r (c.in_ok-header.ensures.header tells) c.in_ok-header.ensures.accepted (length-content s0 wf tells) recovers,
      subst (λ (d : Content). Judges d c.in_ok-judge_through.field-0) view (c.in_ok-judge_through.ensures.judged t3 (subst HasBytes (sym view) bytes)),
    )
