use Rattle.std.proofs.Common.{◌≡◌, ◌∷◌, [], ◌/◌, ◌∙◌, ap, subst}
use Rattle.sector_disk.specs.Lists.{Content}
use Rattle.sector_disk.specs.Disk.{Mixes, Candidates, content, content_of, only}
use Rattle.sector_disk.proofs.Candidates.{content_of-only}
use Rattle.sector_disk.proofs.Stages.{leaves_both}
use Rattle.jnl_format.specs.Recovery.{replayed}
use Rattle.jnl_replay.specs.Homing.{StandsForSameAs, empty_header, with_empty_header}
use Rattle.jnl_replay.specs.Plan.{journal_of}
use Rattle.jnl_replay.proofs.Checks.{length-content}
use Rattle.jnl_replay.proofs.Common.{on_ok}
use Rattle.jnl_replay.proofs.Stages.{stage_empty}
use Rattle.jnl_replay.proofs.replaying.replay_lists.Goals as goal

pub returns-clause-crash : goal.returns-clause-crash
returns-clause-crash g c tells dialect is =
    let s0 = g.D.SectorDisk.state c.args.disk.now in
    let s1 = g.D.SectorDisk.state c.go_home.new.disk in
    let s2 = g.D.SectorDisk.state c.empty_journal.new.disk in
    let plan = c.args.plan.now in
    let c0 = content s0 in
    let j = journal_of plan in
    let home = c.go_home.ensures in
    let size = length-content s0 (g.met.D.SectorDisk.well_formed c.args.disk.now) tells in
    let P : Content → Type 0 = StandsForSameAs dialect plan c0 in
    let base = plan.info.offset / 512 in
    let only_now : s1.candidates ≡ only (replayed j c0) = c.in_ok-go_home.ensures.home tells dialect is in
    let now : content s1 ≡ replayed j c0 = ap content_of only_now ∙ content_of-only (replayed j c0) in
    leaves_both s0 s1 s2 P (Mixes s1.candidates base (empty_header plan (content s1) ∷ [])) P (home.crash tells dialect is) home.sink (c.empty_journal.ensures.crash (home.same.tells ∙ tells))
    (λ image p. p)
    (λ image m. stage_empty c0 plan is s0.sectors c.requires.fits size c.requires.old image
    (subst (λ (d : Candidates). Mixes d base (empty_header plan (replayed j c0) ∷ []) image) only_now (subst (λ (d : Content). Mixes s1.candidates base (empty_header plan d ∷ []) image) now m)))

pub returns-clause-replayed : goal.returns-clause-replayed
returns-clause-replayed g c tells dialect is =
    let s0 = g.D.SectorDisk.state c.args.disk.now in
    let plan = c.args.plan.now in
    let r = replayed (journal_of plan) (content s0) in
    let now : content (g.D.SectorDisk.state c.go_home.new.disk) ≡ r = ap content_of (c.in_ok-go_home.ensures.home tells dialect is) ∙ content_of-only r in
    on_ok _ _ c.empty_journal.result (λ e. e ∙ ap (λ (d : Content). only (with_empty_header plan d)) now) (c.empty_journal.ensures.settled (c.go_home.ensures.same.tells ∙ tells))
