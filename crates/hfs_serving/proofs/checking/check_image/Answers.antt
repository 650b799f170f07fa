use Rattle.std.proofs.Common.{◌∙◌, sym, ap, subst}
use Rattle.std.specs.Prelude.{IfOk}
use Rattle.sector_disk.specs.Disk.{content}
use Rattle.sector_disk.specs.Lists.{Content}
use Rattle.jnl_format.specs.Recovery.{replayed}
use Rattle.jnl_replay.specs.Plan.{journal_of}
use Rattle.hfs_serving.specs.Checking.{IsVerdict}
use Rattle.hfs_volume.specs.Findings.{HasBytes}
use Rattle.volume_header.specs.Refusal.{is_volume_size}
use Rattle.hfs_serving.proofs.ContentBytes.{content_bytes, replayed_bytes}
use Rattle.hfs_serving.proofs.Peeks.{shown_as}
use Rattle.hfs_serving.proofs.checking.check_image.Goals as goal

pub returns-clause-verdict : goal.returns-clause-verdict
returns-clause-verdict g c tells =
    let s0 = g.D.SectorDisk.state c.args.disk.now in
    let s1 = g.D.SectorDisk.state c.new.new.disk in
    let reads = c.new.ensures.reads in
    let shows = shown_as c.in_ok-peek.peek s0 s1 (replayed (journal_of c.args.plan.now) (content s0)) reads c.in_ok-peek.ensures.sectors (c.in_ok-peek.ensures.shows tells) in
    subst (λ (x : Content). IfOk c.check_peek.result (IsVerdict x (g.C.Checker.findings c.check_peek.new.checker))) shows (c.check_peek.ensures.verdict (reads.same.tells ∙ tells))

pub check_peek-requires-clause-size : goal.check_peek-requires-clause-size
check_peek-requires-clause-size g c = ap is_volume_size c.new.ensures.reads.same.sectors ∙ c.requires.size

pub check_peek-requires-clause-bytes : goal.check_peek-requires-clause-bytes
check_peek-requires-clause-bytes g c told =
    let s0 = g.D.SectorDisk.state c.args.disk.now in
    let s1 = g.D.SectorDisk.state c.new.new.disk in
    let reads = c.new.ensures.reads in
    let tells = sym reads.same.tells ∙ told in
    let recovered = replayed (journal_of c.args.plan.now) (content s0) in
    let shows = shown_as c.in_ok-peek.peek s0 s1 recovered reads c.in_ok-peek.ensures.sectors (c.in_ok-peek.ensures.shows tells) in
    subst HasBytes (sym shows) (replayed_bytes (journal_of c.args.plan.now) (content s0) (content_bytes s0 (g.met.D.SectorDisk.well_formed c.args.disk.now)))
