use Rattle.std.proofs.Common.{◌≡◌, sym, ◌∙◌, ap, subst}
use Rattle.sector_disk.specs.Lists.{Content}
use Rattle.sector_disk.specs.Disk.{IsImage, content, content_of, only}
use Rattle.sector_disk.proofs.Candidates.{content_of-only}
use Rattle.sector_disk.proofs.Stages.{leaves_both, leaves_with}
use Rattle.jnl_replay.specs.Homing.{StandsForSameAs, after_replay}
use Rattle.jnl_replay.specs.Plan.{IsPlanAs}
use Rattle.jnl_replay.proofs.Common.{on_ok}
use Rattle.jnl_replay.proofs.Stages.{stands_image}
use Rattle.jnl_replay.proofs.replaying.replay_as.Goals as goal

pub returns-in_err-settle_again-clause-crash : goal.returns-in_err-settle_again-clause-crash
returns-in_err-settle_again-clause-crash g c tells settled dialect is =
    let s0 = g.D.SectorDisk.state c.args.disk.now in
    let s1 = g.D.SectorDisk.state c.settle_again.new.disk in
    let plan = c.args.plan.now in
    leaves_with s0 s1 (IsImage s0.candidates) (StandsForSameAs dialect plan (content s0)) (c.settle_again.ensures.crash tells) (λ image there. stands_image (content s0) plan is s0.sectors c.requires.fits s0.candidates settled image there)

pub replay_settled-requires-clause-settled : goal.replay_settled-requires-clause-settled
replay_settled-requires-clause-settled g c tells1 =
    let s0 = g.D.SectorDisk.state c.args.disk.now in
    let tells = sym c.settle_again.ensures.same.tells ∙ tells1 in
    let is = c.in_ok-settle_again.ensures.settled tells in
    is ∙ ap (λ (d : Content). only d) (sym (ap content_of is ∙ content_of-only (content s0)))

pub returns-clause-crash : goal.returns-clause-crash
returns-clause-crash g c tells settled dialect is =
    let s0 = g.D.SectorDisk.state c.args.disk.now in
    let s1 = g.D.SectorDisk.state c.settle_again.new.disk in
    let s2 = g.D.SectorDisk.state c.replay_settled.new.disk in
    let plan = c.args.plan.now in
    let e = c.settle_again.ensures in
    let now : content s1 ≡ content s0 = ap content_of (c.in_ok-settle_again.ensures.settled tells) ∙ content_of-only (content s0) in
    leaves_both s0 s1 s2 (IsImage s0.candidates) (StandsForSameAs dialect plan (content s1)) (StandsForSameAs dialect plan (content s0)) (e.crash tells) e.sink (c.replay_settled.ensures.crash (e.same.tells ∙ tells) dialect (subst (λ (d : Content). IsPlanAs dialect d plan) (sym now) is))
    (λ image there. stands_image (content s0) plan is s0.sectors c.requires.fits s0.candidates settled image there)
    (λ image stands. subst (λ (d : Content). StandsForSameAs dialect plan d image) now stands)

pub returns-clause-replayed : goal.returns-clause-replayed
returns-clause-replayed g c tells dialect is =
    let s0 = g.D.SectorDisk.state c.args.disk.now in
    let e = c.settle_again.ensures in
    let now : content (g.D.SectorDisk.state c.settle_again.new.disk) ≡ content s0 = ap content_of (c.in_ok-settle_again.ensures.settled tells) ∙ content_of-only (content s0) in
    on_ok _ _ c.replay_settled.result (λ came. came ∙ ap (λ (d : Content). only (after_replay c.args.plan.now d)) now)
    (c.replay_settled.ensures.replayed (e.same.tells ∙ tells) dialect (subst (λ (d : Content). IsPlanAs dialect d c.args.plan.now) (sym now) is))
