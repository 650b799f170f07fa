use Rattle.std.proofs.Common.{◌≡◌, ◌∷◌, [], ◌/◌, ◌≤◌, ◌<◌, IsTrue, length, ◌∙◌, ap, subst, arith}
use Rattle.sector_disk.specs.Lists.{Content, sector}
use Rattle.sector_disk.specs.Disk.{CrashesLeave, Mixes, Candidates, content, content_of, only}
use Rattle.sector_disk.proofs.Candidates.{content_of-only}
use Rattle.sector_disk.proofs.Stages.{stage_leaves, leaves_both}
use Rattle.jnl_ring.proofs.Bytes.{content_whole}
use Rattle.jnl_format.specs.Info.{with_info}
use Rattle.jnl_replay.specs.Homing.{StandsForSameAs, empty_header, with_empty_header, with_info_done, initialised}
use Rattle.jnl_replay.proofs.Checks.{length-content}
use Rattle.jnl_replay.proofs.Common.{on_ok}
use Rattle.jnl_replay.proofs.Fresh.{stage_header, stage_info}
use Rattle.jnl_replay.proofs.replaying.initialise.Goals as goal

pub returns-in_err-empty_journal-clause-crash : goal.returns-in_err-empty_journal-clause-crash
returns-in_err-empty_journal-clause-crash g c tells dialect is =
    let settled = c.requires.settled tells in
    let s0 = g.D.SectorDisk.state c.args.disk.now in
    let s1 = g.D.SectorDisk.state c.empty_journal.new.disk in
    let plan = c.args.plan.now in
    let c0 = content s0 in
    let size = length-content s0 (g.met.D.SectorDisk.well_formed c.args.disk.now) tells in
    stage_leaves s0 s1 c0 (plan.info.offset / 512) (empty_header plan c0 ∷ []) (StandsForSameAs dialect plan c0) settled (c.empty_journal.ensures.crash tells)
    (stage_header c0 plan is s0.sectors c.requires.fits size c.requires.new)

pub returns-clause-crash : goal.returns-clause-crash
returns-clause-crash g c tells dialect is =
    let settled = c.requires.settled tells in
    let s0 = g.D.SectorDisk.state c.args.disk.now in
    let s1 = g.D.SectorDisk.state c.empty_journal.new.disk in
    let s2 = g.D.SectorDisk.state c.clear_flag.new.disk in
    let plan = c.args.plan.now in
    let c0 = content s0 in
    let at = plan.place.info_sector in
    let size = length-content s0 (g.met.D.SectorDisk.well_formed c.args.disk.now) tells in
    let P : Content → Type 0 = StandsForSameAs dialect plan c0 in
    let first : CrashesLeave s0 s1 P =
    stage_leaves s0 s1 c0 (plan.info.offset / 512) (empty_header plan c0 ∷ []) P settled (c.empty_journal.ensures.crash tells) (stage_header c0 plan is s0.sectors c.requires.fits size c.requires.new) in
    let e = c.empty_journal.ensures in
    let t1 : IsTrue s1.tells = e.same.tells ∙ tells in
    let only_now : s1.candidates ≡ only (with_empty_header plan c0) = c.in_ok-empty_journal.ensures.settled tells in
    let now : content s1 ≡ with_empty_header plan c0 = ap content_of only_now ∙ content_of-only (with_empty_header plan c0) in
    let wf = g.met.D.SectorDisk.well_formed c.empty_journal.new.disk in
    let inside : at < length (content s1) = omega (arith, length-content s1 wf t1, e.same.sectors, c.requires.fits.info_sector) in
    let whole : length (sector (content s1) at) ≡ 512 = content_whole s1 wf at inside in
    let enough : 52 ≤ length (sector (with_empty_header plan c0) at) = omega (arith, whole, ap (λ (d : Content). length (sector d at)) now) in
    leaves_both s0 s1 s2 P (Mixes s1.candidates at (with_info (initialised plan.info) (sector (content s1) at) ∷ [])) P first e.sink (c.clear_flag.ensures.crash t1)
    (λ image p. p)
    (λ image m. stage_info c0 plan is s0.sectors c.requires.fits size c.requires.new image enough
    (subst (λ (d : Candidates). Mixes d at (with_info (initialised plan.info) (sector (with_empty_header plan c0) at) ∷ []) image) only_now
    (subst (λ (d : Content). Mixes s1.candidates at (with_info (initialised plan.info) (sector d at) ∷ []) image) now m)))

pub returns-clause-replayed : goal.returns-clause-replayed
returns-clause-replayed g c tells dialect is =
    let s0 = g.D.SectorDisk.state c.args.disk.now in
    let s1 = g.D.SectorDisk.state c.empty_journal.new.disk in
    let plan = c.args.plan.now in
    let c0 = content s0 in
    let only_now : s1.candidates ≡ only (with_empty_header plan c0) = c.in_ok-empty_journal.ensures.settled tells in
    let now : content s1 ≡ with_empty_header plan c0 = ap content_of only_now ∙ content_of-only (with_empty_header plan c0) in
    on_ok _ _ c.clear_flag.result (λ e. e ∙ ap (λ (d : Content). only (with_info_done plan d)) now) (c.clear_flag.ensures.settled (c.empty_journal.ensures.same.tells ∙ tells))
