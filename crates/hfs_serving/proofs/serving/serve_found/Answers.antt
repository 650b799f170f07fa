use Rattle.std.proofs.Common.{[], refl, sym, ◌∙◌, subst}
use Rattle.std.specs.Prelude.{IsTrue}
use Rattle.sector_disk.specs.Disk.{content}
use Rattle.jnl_format.specs.Recovery.{replayed}
use Rattle.jnl_replay.specs.Plan.{journal_of}
use Rattle.jnl_replay.specs.declared.plan.Plan.{Plan}
use Rattle.jnl_store.specs.Plan.{IsCapacityOf}
use Rattle.hfs_language.specs.Language.{most_bytes}
use Rattle.line_source.specs.Batch.{held}
use Rattle.hfs_serving.specs.Outside.{outside_of}
use Rattle.hfs_serving.specs.Speaking.{SpeaksFrom}
use Rattle.hfs_serving.proofs.Speeches.{none_begun}
use Rattle.hfs_serving.proofs.Promising.{has_none, keeps_spoken}
use Rattle.hfs_serving.proofs.Readied.{turns_on}
use Rattle.hfs_serving.proofs.Served.{capacity_mounted, goes_on_from, may_serve, reads_ready, reads_turn, ready_stopped, start_found, versioned_sound}
use Rattle.std.proofs.Common.{arith}
use Rattle.std.proofs.lemmas.Result.{err_from_is_err_and}
use Rattle.hx_bytes.specs.declared.faults.Trouble.TheVariants as trouble
use Rattle.sector_disk.specs.Cause.{Rose}
use Rattle.hfs_serving.proofs.Causes.{rig_behind, rig_trouble}
use Rattle.hfs_serving.proofs.Numbering.{no_trouble}
use Rattle.hfs_serving.proofs.Answering.{answers_from, answers_rig, no_end_of_trouble}
use Rattle.hfs_serving.proofs.Grounding.{disks_both}
use Rattle.watchers.proofs.Tellings.{told_nothing}
use Rattle.hfs_serving.proofs.Going.{on_err}
use Rattle.hfs_serving.proofs.Hearing.{err_then}
use Rattle.hfs_serving.proofs.Caused.{on_ok, run_behind, run_none}
use Rattle.hfs_serving.proofs.serving.serve_found.Goals as goal

pub returns-in_err-ready-clause-promises : goal.returns-in_err-ready-clause-promises
returns-in_err-ready-clause-promises g c =
    let p = err_from_is_err_and c.from_residual.result c.from_residual.ensures.1 in (
      [],
      λ stay. told_nothing _ _ c.args.watchers.now.items stay,
      λ tells settled capacity holds first reads.
          let s = g.R.SectorDisk.state first in
          let s0 = g.R.SectorDisk.state c.args.rig.now in
          let s1 = g.R.SectorDisk.state c.ready_image.new.disk in
          let plan = c.args.plan in
          let image = content s0 in
          let found = c.requires.found tells in
          let start = replayed (journal_of plan) image in
          let source = g.S.Source.stream c.args.source.now in
          let fits = c.requires.fits in
          let stands = start_found image plan s0.sectors fits found.opened in
          keeps_spoken c.aside_is_free.ensures capacity start plan s s1 [] (g.met.R.SectorDisk.only_now first) (stands s.candidates (sym reads.candidates ∙ settled)) found.sound
          (may_serve image plan s0.sectors fits found.opened capacity holds) source source (λ told. has_none source)
          (ready_stopped (SpeaksFrom start (g.K.Speaker.spoke c.args.speaker.now) g.K.Speaker.broken) (none_begun start (g.K.Speaker.spoke c.args.speaker.now) g.K.Speaker.broken (g.met.K.Speaker.whole c.args.speaker.now)) capacity plan start s s1
          (reads_ready plan start s s0 s1 (reads_turn plan start s s0 reads (stands s0.candidates settled)) (c.ready_image.ensures.crash tells settled start found.opened.opens.0.recovers refl found.sound))),
      λ final. absurd (no_end_of_trouble trouble.Disk p.0 c.from_residual.result p.1 p.2 final),
    )

pub serve_ready-requires-clause-ready : goal.serve_ready-requires-clause-ready
serve_ready-requires-clause-ready g c tells_mid =
    let tells = subst (λ t. IsTrue t) c.ready_image.ensures.same.tells tells_mid in
    let found = c.requires.found tells in
    let start = replayed (journal_of c.args.plan) (content (g.R.SectorDisk.state c.args.rig.now)) in
    let made = c.in_ok-ready.ensures.made tells start found.opened.opens.0.recovers refl found.sound in
    (made.now, made.is_ready, versioned_sound start made.now made.versioned found.sound)

pub returns-clause-promises : goal.returns-clause-promises
returns-clause-promises g c = (
  c.serve_ready.ensures.stretch.0,
  c.serve_ready.ensures.stretch.1,
  λ tells settled capacity holds first reads.
      let s = g.R.SectorDisk.state first in
      let s0 = g.R.SectorDisk.state c.args.rig.now in
      let s1 = g.R.SectorDisk.state c.ready_image.new.disk in
      let s2 = g.R.SectorDisk.state c.serve_ready.new.rig in
      let plan = c.args.plan in
      let ready = c.in_ok-ready.ready in
      let image = content s0 in
      let found = c.requires.found tells in
      let start = replayed (journal_of plan) image in
      let source = g.S.Source.stream c.args.source.now in
      let source_new = g.S.Source.stream c.serve_ready.new.source in
      let fits = c.requires.fits in
      let stands = start_found image plan s0.sectors fits found.opened in
      let done = c.in_ok-ready.ensures.ready tells settled start found.opened.opens.0.recovers refl found.sound in
      let turns = turns_on start done.made.now (outside_of plan s) (outside_of plan s0) (outside_of plan s1) (reads_turn plan start s s0 reads (stands s0.candidates settled)) done.turns in
      let stretch = c.serve_ready.ensures.stretch.2 in
      let tells_mid = subst (λ t. IsTrue t) (sym c.ready_image.ensures.same.tells) tells in
      keeps_spoken c.aside_is_free.ensures capacity start plan s s2 stretch.0 (g.met.R.SectorDisk.only_now first) (stands s.candidates (sym reads.candidates ∙ settled)) found.sound
      (may_serve image plan s0.sectors fits found.opened capacity holds) source source_new stretch.1
      (goes_on_from plan ready c.in_ok-ready.ensures.plan capacity start done.made.now s s1 s2 (held most_bytes stretch.0) turns
      (stretch.2 tells_mid capacity (subst (λ (q : Plan). IsCapacityOf q capacity) (sym c.in_ok-ready.ensures.plan) (capacity_mounted plan capacity holds)) start done.made.now first done.made.versioned done.made.place done.made.is_ready
      (versioned_sound start done.made.now done.made.versioned found.sound))),
  λ final.
      let answers = c.serve_ready.ensures.stretch.3 final in (
        answers.0,
        answers.1,
        answers.2,
        λ tells settled capacity holds first reads.
            let s = g.R.SectorDisk.state first in
            let s0 = g.R.SectorDisk.state c.args.rig.now in
            let s1 = g.R.SectorDisk.state c.ready_image.new.disk in
            let s2 = g.R.SectorDisk.state c.serve_ready.new.rig in
            let plan = c.args.plan in
            let ready = c.in_ok-ready.ready in
            let image = content s0 in
            let found = c.requires.found tells in
            let start = replayed (journal_of plan) image in
            let source = g.S.Source.stream c.args.source.now in
            let source_new = g.S.Source.stream c.serve_ready.new.source in
            let fits = c.requires.fits in
            let stands = start_found image plan s0.sectors fits found.opened in
            let done = c.in_ok-ready.ensures.ready tells settled start found.opened.opens.0.recovers refl found.sound in
            let turns = turns_on start done.made.now (outside_of plan s) (outside_of plan s0) (outside_of plan s1) (reads_turn plan start s s0 reads (stands s0.candidates settled)) done.turns in
            let tells_mid = subst (λ t. IsTrue t) (sym c.ready_image.ensures.same.tells) tells in
            answers_rig (SpeaksFrom start (g.K.Speaker.spoke c.args.speaker.now) (g.K.Speaker.spoke c.serve_ready.new.speaker)) c.serve_ready.ensures.stretch.0 c.aside_is_free.ensures capacity start plan s s2 answers.0 (g.met.R.SectorDisk.only_now first) (stands s.candidates (sym reads.candidates ∙ settled)) found.sound
            (may_serve image plan s0.sectors fits found.opened capacity holds) source source_new (λ told. (answers.1 told).0)
            (answers_from plan ready c.in_ok-ready.ensures.plan capacity start done.made.now s s1 s2 (held most_bytes answers.0) turns
            (answers.3 tells_mid capacity (subst (λ (q : Plan). IsCapacityOf q capacity) (sym c.in_ok-ready.ensures.plan) (capacity_mounted plan capacity holds)) start done.made.now first done.made.versioned done.made.place done.made.is_ready
            (versioned_sound start done.made.now done.made.versioned found.sound))),
      ),
)

pub returns-in_err-ready-clause-faults : goal.returns-in_err-ready-clause-faults
returns-in_err-ready-clause-faults g c =
    let p = err_from_is_err_and c.from_residual.result c.from_residual.ensures.1 in
    let s0 = g.R.SectorDisk.state c.args.rig.now in
    let s1 = g.R.SectorDisk.state c.ready_image.new.disk in
    rig_trouble s0 s1 s1 c.ready_image.ensures.cause.later (omega (arith, c.ready_image.ensures.sink.faults)) (Rose (g.S.Source.stream c.args.source.now).faults (g.S.Source.stream c.args.source.now).faults) trouble.Disk p.0 c.from_residual.result (λ _. c.in_err-ready.ensures.cause.failed) p.1 p.2

pub returns-clause-faults : goal.returns-clause-faults
returns-clause-faults g c =
    let s0 = g.R.SectorDisk.state c.args.rig.now in
    let s1 = g.R.SectorDisk.state c.ready_image.new.disk in
    let s2 = g.R.SectorDisk.state c.serve_ready.new.rig in
    rig_behind s0 s1 s2 c.ready_image.ensures.cause.later (omega (arith, c.ready_image.ensures.sink.faults)) (Rose (g.S.Source.stream c.args.source.now).faults (g.S.Source.stream c.serve_ready.new.source).faults) c.serve_ready.result c.serve_ready.ensures.faults

pub returns-in_err-ready-clause-many : goal.returns-in_err-ready-clause-many
returns-in_err-ready-clause-many g c told is =
    let p = err_from_is_err_and c.from_residual.result c.from_residual.ensures.1 in
    absurd (no_trouble trouble.Disk p.0 c.from_residual.result p.1 p.2 is)

pub returns-clause-away : goal.returns-clause-away
returns-clause-away g c tells = c.serve_ready.ensures.away (subst (λ t. IsTrue t) (sym c.ready_image.ensures.same.tells) tells)

pub returns-clause-same : goal.returns-clause-same
returns-clause-same g c = disks_both c.ready_image.ensures.same c.serve_ready.ensures.same

pub returns-clause-commits : goal.returns-clause-commits
returns-clause-commits g c tells =
    on_ok _ _ c.serve_ready.result (λ served. (served.0, served.1, run_behind _ g.K.Speaker.often 4 4 1 served.0 _ _ _ served.2 c.ready_image.ensures.barriers)) (c.serve_ready.ensures.commits (subst (λ t. IsTrue t) (sym c.ready_image.ensures.same.tells) tells))

pub returns-in_err-ready-clause-cut : goal.returns-in_err-ready-clause-cut
returns-in_err-ready-clause-cut g c tells = on_err c.from_residual.result (0, λ told. omega arith, run_none _ g.K.Speaker.often 8 2 _ _ (omega (arith, c.ready_image.ensures.barriers)))

pub returns-clause-cut : goal.returns-clause-cut
returns-clause-cut g c tells =
    err_then c.serve_ready.result (λ served. (served.0, served.1, run_behind _ g.K.Speaker.often 4 4 2 served.0 _ _ _ served.2 c.ready_image.ensures.barriers)) (c.serve_ready.ensures.cut (subst (λ t. IsTrue t) (sym c.ready_image.ensures.same.tells) tells))
