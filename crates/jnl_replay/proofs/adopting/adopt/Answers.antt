use Rattle.std.proofs.Common.{◌≡◌, ◌∷◌, [], ◌/◌, IsTrue, sym, ◌∙◌, ap, subst}
use Rattle.sector_disk.specs.Lists.{Content}
use Rattle.sector_disk.specs.Disk.{Candidates, Mixes, content, content_of, only}
use Rattle.sector_disk.proofs.Candidates.{content_of-only}
use Rattle.sector_disk.proofs.Stages.{leaves_both, leaves_with}
use Rattle.jnl_format.specs.declared.dialect.Dialect.TheVariants.{Wide}
use Rattle.jnl_ring.proofs.Bytes.{content_whole}
use Rattle.jnl_replay.specs.Adopting.{IsAdopted, StandsAdopted, after_adoption, narrowed}
use Rattle.jnl_replay.specs.Homing.{StandsForSameAs, after_replay, empty_header, with_empty_header}
use Rattle.jnl_replay.specs.Plan.{FitsAny}
use Rattle.jnl_replay.specs.declared.plan.Plan.{Plan}
use Rattle.jnl_replay.proofs.Adopted.{adopted_mix, adopted_reads, fits_narrowed, found_adopted}
use Rattle.jnl_replay.proofs.Checks.{length-content}
use Rattle.jnl_replay.proofs.Common.{on_ok}
use Rattle.jnl_replay.proofs.adopting.adopt.Goals as goal

pub empty_journal-requires : goal.empty_journal-requires
empty_journal-requires g c =
    let plan = c.args.plan.now in
    let fits : FitsAny (g.D.SectorDisk.state c.args.disk.now).sectors (narrowed plan) = fits_narrowed (g.D.SectorDisk.state c.args.disk.now).sectors plan c.requires.fits in
    subst (λ (p : Plan). FitsAny (g.D.SectorDisk.state c.replay_as.new.disk).sectors p) (sym c.narrow-plain.ensures) (subst (λ n. FitsAny n (narrowed plan)) (sym c.replay_as.ensures.same.sectors) fits)

pub returns-in_err-replay_as-clause-crash : goal.returns-in_err-replay_as-clause-crash
returns-in_err-replay_as-clause-crash g c tells settled =
    let s0 = g.D.SectorDisk.state c.args.disk.now in
    let s1 = g.D.SectorDisk.state c.replay_as.new.disk in
    let plan = c.args.plan.now in
    leaves_with s0 s1 (StandsForSameAs Wide plan (content s0)) (StandsAdopted plan (content s0)) (c.replay_as.ensures.crash tells settled Wide (c.requires.plan tells)) (λ image stands. found_adopted plan (content s0) image stands)

pub returns-clause-adopted : goal.returns-clause-adopted
returns-clause-adopted g c tells =
    let s0 = g.D.SectorDisk.state c.args.disk.now in
    let plan = c.args.plan.now in
    let r = after_replay plan (content s0) in
    let now : content (g.D.SectorDisk.state c.replay_as.new.disk) ≡ r = ap content_of (c.in_ok-replay_as.ensures.replayed tells Wide (c.requires.plan tells)) ∙ content_of-only r in
    on_ok _ _ c.empty_journal.result (λ e. e ∙ ap (λ (p : Plan). only (with_empty_header p (content (g.D.SectorDisk.state c.replay_as.new.disk)))) c.narrow-plain.ensures ∙ ap (λ (d : Content). only (with_empty_header (narrowed plan) d)) now)
    (c.empty_journal.ensures.settled (c.replay_as.ensures.same.tells ∙ tells))

pub returns-clause-plain : goal.returns-clause-plain
returns-clause-plain g c tells =
    let s0 = g.D.SectorDisk.state c.args.disk.now in
    let s2 = g.D.SectorDisk.state c.empty_journal.new.disk in
    let wf = g.met.D.SectorDisk.well_formed c.args.disk.now in
    let plan = c.args.plan.now in
    let c0 = content s0 in
    let reads : IsAdopted plan c0 (after_adoption plan c0) = adopted_reads plan s0.sectors c.requires.fits c0 (c.requires.plan tells) (length-content s0 wf tells) (content_whole s0 wf) in
    on_ok _ _ c.empty_journal.result (λ e. subst (IsAdopted plan c0) (sym (ap content_of e ∙ content_of-only (after_adoption plan c0))) reads) (returns-clause-adopted g c tells)

pub returns-clause-crash : goal.returns-clause-crash
returns-clause-crash g c tells settled =
    let s0 = g.D.SectorDisk.state c.args.disk.now in
    let s1 = g.D.SectorDisk.state c.replay_as.new.disk in
    let s2 = g.D.SectorDisk.state c.empty_journal.new.disk in
    let wf = g.met.D.SectorDisk.well_formed c.args.disk.now in
    let plan = c.args.plan.now in
    let c0 = content s0 in
    let r = after_replay plan c0 in
    let base = plan.info.offset / 512 in
    let is = c.requires.plan tells in
    let only_now : s1.candidates ≡ only r = c.in_ok-replay_as.ensures.replayed tells Wide is in
    let now : content s1 ≡ r = ap content_of only_now ∙ content_of-only r in
    let p : Plan = c.narrow-plain.result in
    leaves_both s0 s1 s2 (StandsForSameAs Wide plan c0) (Mixes s1.candidates (p.info.offset / 512) (empty_header p (content s1) ∷ [])) (StandsAdopted plan c0) (c.replay_as.ensures.crash tells settled Wide is) c.replay_as.ensures.sink
    (c.empty_journal.ensures.crash (c.replay_as.ensures.same.tells ∙ tells))
    (λ image stands. found_adopted plan c0 image stands)
    (λ image m. adopted_mix plan s0.sectors c.requires.fits c0 is (length-content s0 wf tells) (content_whole s0 wf) image
    (subst (λ (d : Candidates). Mixes d base (empty_header (narrowed plan) r ∷ []) image) only_now
    (subst (λ (d : Content). Mixes s1.candidates base (empty_header (narrowed plan) d ∷ []) image) now
    (subst (λ (q : Plan). Mixes s1.candidates (q.info.offset / 512) (empty_header q (content s1) ∷ []) image) c.narrow-plain.ensures m))))
