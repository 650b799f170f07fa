use Rattle.std.proofs.Common.{◌≡◌, List, ℕ, sym, ◌∙◌, ap, subst}
use Rattle.sector_disk.specs.Lists.{Content}
use Rattle.sector_disk.specs.Disk.{CrashesLeave, Candidates, content, only}
use Rattle.sector_disk.proofs.Stages.{leaves_with}
use Rattle.jnl_format.specs.Recovery.{replayed, homes_of, volume_of, with_homes}
use Rattle.jnl_format.specs.Named.{MixesHomes}
use Rattle.jnl_replay.specs.Homing.{IsHomeMix, StandsForSameAs}
use Rattle.jnl_replay.specs.Plan.{journal_of}
use Rattle.jnl_replay.specs.Text.{words}
use Rattle.jnl_replay.proofs.Checks.{length-content}
use Rattle.jnl_replay.proofs.Common.{on_ok}
use Rattle.jnl_replay.proofs.Stages.{homes_of_plan, words_of_plan, mix_settled, stands_image, stands_mixed, stands_replayed}
use Rattle.jnl_replay.proofs.Stretches.{leaves_barrier, leaves_none, barrier_either}
use Rattle.jnl_replay.proofs.replaying.go_home.Goals as goal

pub returns-in_err-write_homes-clause-crash : goal.returns-in_err-write_homes-clause-crash
returns-in_err-write_homes-clause-crash g c tells dialect is =
    let settled = c.requires.settled tells in
    let s0 = g.D.SectorDisk.state c.args.disk.now in
    let s1 = g.D.SectorDisk.state c.write_homes.new.disk in
    let plan = c.args.plan.now in
    let t = c.text_of-text.result in
    let c0 = content s0 in
    let j = journal_of plan in
    let a = homes_of_plan c0 plan t s0.sectors is c.text_of-text.ensures.is (length-content s0 (g.met.D.SectorDisk.well_formed c.args.disk.now) tells) in
    leaves_with s0 s1 (IsHomeMix (words t c0) (homes_of j c0) s0.candidates) (StandsForSameAs dialect plan c0) (c.write_homes.ensures.crash tells (volume_of plan.place.info_sector j c0) (homes_of j c0) a)
    (λ image m. stands_mixed c0 plan is s0.sectors c.requires.fits image
    (subst (λ (w : List ℕ). MixesHomes w (homes_of j c0) c0 image) (words_of_plan c0 plan t c.text_of-text.ensures.is)
    (mix_settled (words t c0) (homes_of j c0) c0 image (subst (λ (d : Candidates). IsHomeMix (words t c0) (homes_of j c0) d image) settled m))))

pub returns-then-plan-clause-crash : goal.returns-then-plan-clause-crash
returns-then-plan-clause-crash g c tells dialect is =
    let s0 = g.D.SectorDisk.state c.args.disk.now in
    leaves_none s0 (StandsForSameAs dialect c.args.plan.now (content s0)) (λ image there. stands_image (content s0) c.args.plan.now is s0.sectors c.requires.fits s0.candidates (c.requires.settled tells) image there)

pub returns-clause-home : goal.returns-clause-home
returns-clause-home g c tells dialect is =
    let s0 = g.D.SectorDisk.state c.args.disk.now in
    let plan = c.args.plan.now in
    let t = c.text_of-text.result in
    let c0 = content s0 in
    let j = journal_of plan in
    let same = c.text_of-text.ensures.is in
    let a = homes_of_plan c0 plan t s0.sectors is same (length-content s0 (g.met.D.SectorDisk.well_formed c.args.disk.now) tells) in
    let home : content (g.D.SectorDisk.state c.write_homes.new.disk) ≡ replayed j c0 =
    c.in_ok-write_homes.ensures.written tells (volume_of plan.place.info_sector j c0) (homes_of j c0) a ∙ ap (λ (w : List ℕ). with_homes w (homes_of j c0) c0) (words_of_plan c0 plan t same) in
    on_ok _ _ c.barrier.result (λ e. e ∙ ap (λ (d : Content). only d) home) c.barrier.ensures.settled

pub returns-clause-crash : goal.returns-clause-crash
returns-clause-crash g c tells dialect is =
    let settled = c.requires.settled tells in
    let s0 = g.D.SectorDisk.state c.args.disk.now in
    let s1 = g.D.SectorDisk.state c.write_homes.new.disk in
    let s2 = g.D.SectorDisk.state c.barrier.new.self in
    let plan = c.args.plan.now in
    let t = c.text_of-text.result in
    let c0 = content s0 in
    let j = journal_of plan in
    let same = c.text_of-text.ensures.is in
    let a = homes_of_plan c0 plan t s0.sectors is same (length-content s0 (g.met.D.SectorDisk.well_formed c.args.disk.now) tells) in
    let P : Content → Type 0 = StandsForSameAs dialect plan c0 in
    let first : CrashesLeave s0 s1 P =
    leaves_with s0 s1 (IsHomeMix (words t c0) (homes_of j c0) s0.candidates) P (c.write_homes.ensures.crash tells (volume_of plan.place.info_sector j c0) (homes_of j c0) a)
    (λ image m. stands_mixed c0 plan is s0.sectors c.requires.fits image
    (subst (λ (w : List ℕ). MixesHomes w (homes_of j c0) c0 image) (words_of_plan c0 plan t same)
    (mix_settled (words t c0) (homes_of j c0) c0 image (subst (λ (d : Candidates). IsHomeMix (words t c0) (homes_of j c0) d image) settled m)))) in
    leaves_barrier s0 s1 s2 P first c.write_homes.ensures.sink c.barrier.ensures.sink c.barrier.ensures.time
    (barrier_either s1 s2 P c.barrier.result first.now c.barrier.ensures.settled c.barrier.ensures.failed
    (λ came. subst P (sym (c.in_ok-write_homes.ensures.written tells (volume_of plan.place.info_sector j c0) (homes_of j c0) a ∙ ap (λ (w : List ℕ). with_homes w (homes_of j c0) c0) (words_of_plan c0 plan t same)))
    (stands_replayed c0 plan is s0.sectors c.requires.fits)))
