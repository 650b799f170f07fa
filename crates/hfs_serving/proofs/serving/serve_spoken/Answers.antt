use Rattle.std.proofs.Common.{Result, Err, [], sym, ◌∙◌, ap, subst, arith}
use Rattle.std.specs.Prelude.{IfOk}
use Rattle.sector_disk.specs.Cause.{Rose}
use Rattle.sector_disk.specs.Disk.{content}
use Rattle.jnl_format.specs.Recovery.{Content, replayed}
use Rattle.jnl_replay.specs.Plan.{FitsPlan, journal_of}
use Rattle.jnl_replay.specs.declared.plan.Plan.{Plan}
use Rattle.hfs_serving.specs.Checking.{IsFound}
use Rattle.hfs_serving.specs.Speaking.{SpeaksFrom}
use Rattle.hfs_serving.specs.Spoken.{AnswersRigSpoken, KeepsSpoken}
use Rattle.hfs_serving.specs.declared.checking.MountRefusal.{MountRefusal}
use Rattle.hfs_serving.proofs.Answering.{handed_answers, no_end_of_trouble, trouble_stops}
use Rattle.hfs_serving.proofs.Going.{on_err}
use Rattle.hfs_serving.proofs.Caused.{run_behind, run_none}
use Rattle.hfs_serving.proofs.Causes.{rig_fine, rig_handed, rig_trouble}
use Rattle.hfs_serving.proofs.Grounding.{disks_both}
use Rattle.hfs_serving.proofs.Numbering.{no_trouble, too_many}
use Rattle.hfs_serving.proofs.Served.{found_mounts, mounts_one, reads_content, reads_spoken, reads_settled}
use Rattle.hfs_serving.proofs.Speeches.{none_begun}
use Rattle.std.proofs.lemmas.Result.{err_from_is_err_and}
use Rattle.watchers.proofs.Tellings.{told_nothing}
use Rattle.hfs_serving.proofs.serving.serve_spoken.Goals as goal

pub returns-in_err-plan-clause-promises : goal.returns-in_err-plan-clause-promises
returns-in_err-plan-clause-promises g c =
    let p = err_from_is_err_and c.from_residual.result c.from_residual.ensures.1 in (
      [],
      λ stay. told_nothing _ _ c.args.watchers.now.items stay,
      λ tells settled capacity start mounts. reads_spoken capacity start (g.R.SectorDisk.state c.args.rig.now) (g.R.SectorDisk.state c.find_image.new.disk) settled (g.met.R.SectorDisk.only_now c.args.rig.now) c.find_image.ensures.reads mounts (SpeaksFrom start (g.K.Speaker.spoke c.args.speaker.now) g.K.Speaker.broken) (none_begun start (g.K.Speaker.spoke c.args.speaker.now) g.K.Speaker.broken (g.met.K.Speaker.whole c.args.speaker.now)) (g.S.Source.stream c.args.source.now),
      λ isnt final. absurd (no_end_of_trouble _ p.0 c.from_residual.result p.1 p.2 final),
    )

pub returns-in-Err-clause-promises : goal.returns-in-Err-clause-promises
returns-in-Err-clause-promises g c = (
  [],
  λ stay. told_nothing _ _ c.args.watchers.now.items stay,
  λ tells settled capacity start mounts. reads_spoken capacity start (g.R.SectorDisk.state c.args.rig.now) (g.R.SectorDisk.state c.find_image.new.disk) settled (g.met.R.SectorDisk.only_now c.args.rig.now) c.find_image.ensures.reads mounts (SpeaksFrom start (g.K.Speaker.spoke c.args.speaker.now) g.K.Speaker.broken) (none_begun start (g.K.Speaker.spoke c.args.speaker.now) g.K.Speaker.broken (g.met.K.Speaker.whole c.args.speaker.now)) (g.S.Source.stream c.args.source.now),
  λ isnt final. absurd isnt,
)

pub returns-in_err-serve_found-in-Ok-clause-promises : goal.returns-in_err-serve_found-in-Ok-clause-promises
returns-in_err-serve_found-in-Ok-clause-promises g c =
    let p = err_from_is_err_and c.from_residual-in_err-serve_found-in-Ok.result c.from_residual-in_err-serve_found-in-Ok.ensures.1 in (
      c.in_err-serve_found-in-Ok.ensures.promises.0,
      c.in_err-serve_found-in-Ok.ensures.promises.1,
      λ tells settled capacity start mounts.
          let s0 = g.R.SectorDisk.state c.args.rig.now in
          let s1 = g.R.SectorDisk.state c.find_image.new.disk in
          let s2 = g.R.SectorDisk.state c.serve_found.new.rig in
          let image = content s0 in
          let plan = c.in-Ok.plan in
          let reads = c.find_image.ensures.reads in
          let source = g.S.Source.stream c.args.source.now in
          let source_new = g.S.Source.stream c.serve_found.new.source in
          let found = subst (λ (r : Result Plan MountRefusal). IfOk r (IsFound image)) c.in-Ok.is (c.in_ok-plan.ensures.found tells) in
          let fits = subst (λ (r : Result Plan MountRefusal). IfOk r (FitsPlan s0.sectors)) c.in-Ok.is c.in_ok-plan.ensures.fits in
          let one = mounts_one image plan s0.sectors fits found.opened capacity start mounts in
          let same = ap (replayed (journal_of plan)) (reads_content s0 s1 reads) ∙ sym one.0 in
          subst (λ (x : Content). KeepsSpoken (SpeaksFrom x (g.K.Speaker.spoke c.args.speaker.now) g.K.Speaker.broken) c.in_err-serve_found-in-Ok.ensures.promises.0 capacity x s0 source s2 source_new) same
          (c.in_err-serve_found-in-Ok.ensures.promises.2 (reads.same.tells ∙ tells) (reads_settled s0 s1 reads settled) capacity one.1 c.args.rig.now reads),
      λ isnt. handed_answers c.in_err-serve_found-in-Ok.field-0.0 p.0 c.from_residual-in_err-serve_found-in-Ok.result _ [] (g.S.Source.stream c.args.source.now) (g.S.Source.stream c.serve_found.new.source) p.1 p.2
          (λ final.
          let there = c.in_err-serve_found-in-Ok.ensures.promises.3 final in (
            there.0,
            there.1,
            there.2,
            λ tells settled capacity start mounts.
                let s0 = g.R.SectorDisk.state c.args.rig.now in
                let s1 = g.R.SectorDisk.state c.find_image.new.disk in
                let s2 = g.R.SectorDisk.state c.serve_found.new.rig in
                let image = content s0 in
                let plan = c.in-Ok.plan in
                let reads = c.find_image.ensures.reads in
                let source = g.S.Source.stream c.args.source.now in
                let source_new = g.S.Source.stream c.serve_found.new.source in
                let found = subst (λ (r : Result Plan MountRefusal). IfOk r (IsFound image)) c.in-Ok.is (c.in_ok-plan.ensures.found tells) in
                let fits = subst (λ (r : Result Plan MountRefusal). IfOk r (FitsPlan s0.sectors)) c.in-Ok.is c.in_ok-plan.ensures.fits in
                let one = mounts_one image plan s0.sectors fits found.opened capacity start mounts in
                let same = ap (replayed (journal_of plan)) (reads_content s0 s1 reads) ∙ sym one.0 in
                subst (λ (x : Content). AnswersRigSpoken (SpeaksFrom x (g.K.Speaker.spoke c.args.speaker.now) (g.K.Speaker.spoke c.serve_found.new.speaker)) c.in_err-serve_found-in-Ok.ensures.promises.0 capacity x s0 source there.0 s2 source_new) same
                (there.3 (reads.same.tells ∙ tells) (reads_settled s0 s1 reads settled) capacity one.1 c.args.rig.now reads),
          )),
    )

pub returns-in_ok-serve_found-in-Ok-clause-promises : goal.returns-in_ok-serve_found-in-Ok-clause-promises
returns-in_ok-serve_found-in-Ok-clause-promises g c = (
  c.in_ok-serve_found-in-Ok.ensures.promises.0,
  c.in_ok-serve_found-in-Ok.ensures.promises.1,
  λ tells settled capacity start mounts.
      let s0 = g.R.SectorDisk.state c.args.rig.now in
      let s1 = g.R.SectorDisk.state c.find_image.new.disk in
      let s2 = g.R.SectorDisk.state c.serve_found.new.rig in
      let image = content s0 in
      let plan = c.in-Ok.plan in
      let reads = c.find_image.ensures.reads in
      let source = g.S.Source.stream c.args.source.now in
      let source_new = g.S.Source.stream c.serve_found.new.source in
      let found = subst (λ (r : Result Plan MountRefusal). IfOk r (IsFound image)) c.in-Ok.is (c.in_ok-plan.ensures.found tells) in
      let fits = subst (λ (r : Result Plan MountRefusal). IfOk r (FitsPlan s0.sectors)) c.in-Ok.is c.in_ok-plan.ensures.fits in
      let one = mounts_one image plan s0.sectors fits found.opened capacity start mounts in
      let same = ap (replayed (journal_of plan)) (reads_content s0 s1 reads) ∙ sym one.0 in
      subst (λ (x : Content). KeepsSpoken (SpeaksFrom x (g.K.Speaker.spoke c.args.speaker.now) g.K.Speaker.broken) c.in_ok-serve_found-in-Ok.ensures.promises.0 capacity x s0 source s2 source_new) same
      (c.in_ok-serve_found-in-Ok.ensures.promises.2 (reads.same.tells ∙ tells) (reads_settled s0 s1 reads settled) capacity one.1 c.args.rig.now reads),
  λ isnt final.
      let there = c.in_ok-serve_found-in-Ok.ensures.promises.3 tt in (
        there.0,
        there.1,
        there.2,
        λ tells settled capacity start mounts.
            let s0 = g.R.SectorDisk.state c.args.rig.now in
            let s1 = g.R.SectorDisk.state c.find_image.new.disk in
            let s2 = g.R.SectorDisk.state c.serve_found.new.rig in
            let image = content s0 in
            let plan = c.in-Ok.plan in
            let reads = c.find_image.ensures.reads in
            let source = g.S.Source.stream c.args.source.now in
            let source_new = g.S.Source.stream c.serve_found.new.source in
            let found = subst (λ (r : Result Plan MountRefusal). IfOk r (IsFound image)) c.in-Ok.is (c.in_ok-plan.ensures.found tells) in
            let fits = subst (λ (r : Result Plan MountRefusal). IfOk r (FitsPlan s0.sectors)) c.in-Ok.is c.in_ok-plan.ensures.fits in
            let one = mounts_one image plan s0.sectors fits found.opened capacity start mounts in
            let same = ap (replayed (journal_of plan)) (reads_content s0 s1 reads) ∙ sym one.0 in
            subst (λ (x : Content). AnswersRigSpoken (SpeaksFrom x (g.K.Speaker.spoke c.args.speaker.now) (g.K.Speaker.spoke c.serve_found.new.speaker)) c.in_ok-serve_found-in-Ok.ensures.promises.0 capacity x s0 source there.0 s2 source_new) same
            (there.3 (reads.same.tells ∙ tells) (reads_settled s0 s1 reads settled) capacity one.1 c.args.rig.now reads),
      ),
)

pub returns-in_ok-serve_found-in-Ok-clause-away : goal.returns-in_ok-serve_found-in-Ok-clause-away
returns-in_ok-serve_found-in-Ok-clause-away g c tells = c.in_ok-serve_found-in-Ok.ensures.away (c.find_image.ensures.reads.same.tells ∙ tells)

pub returns-in_ok-serve_found-in-Ok-clause-served : goal.returns-in_ok-serve_found-in-Ok-clause-served
returns-in_ok-serve_found-in-Ok-clause-served g c tells =
    let s0 = g.R.SectorDisk.state c.args.rig.now in
    let image = content s0 in
    let plan = c.in-Ok.plan in
    let found = subst (λ (r : Result Plan MountRefusal). IfOk r (IsFound image)) c.in-Ok.is (c.in_ok-plan.ensures.found tells) in
    let fits = subst (λ (r : Result Plan MountRefusal). IfOk r (FitsPlan s0.sectors)) c.in-Ok.is c.in_ok-plan.ensures.fits in
    (found.opened.capacity, replayed (journal_of plan) image, found_mounts image plan s0.sectors fits found.opened found.sound)

pub returns-in_err-plan-clause-faults : goal.returns-in_err-plan-clause-faults
returns-in_err-plan-clause-faults g c =
    let p = err_from_is_err_and c.from_residual.result c.from_residual.ensures.1 in
    let s0 = g.R.SectorDisk.state c.args.rig.now in
    let s1 = g.R.SectorDisk.state c.find_image.new.disk in
    rig_trouble s0 s1 s1 c.find_image.ensures.reads.faults (omega (arith, c.find_image.ensures.reads.sink.faults)) (Rose (g.S.Source.stream c.args.source.now).faults (g.S.Source.stream c.args.source.now).faults) _ p.0 c.from_residual.result (λ is. c.in_err-plan.ensures.cause.rose (ap Err is)) p.1 p.2

pub returns-in-Err-clause-faults : goal.returns-in-Err-clause-faults
returns-in-Err-clause-faults g c =
    let s0 = g.R.SectorDisk.state c.args.rig.now in
    let s1 = g.R.SectorDisk.state c.find_image.new.disk in
    rig_fine s0 s1 s1 c.find_image.ensures.reads.faults (omega (arith, c.find_image.ensures.reads.sink.faults)) (Rose (g.S.Source.stream c.args.source.now).faults (g.S.Source.stream c.args.source.now).faults) _

pub returns-in_err-serve_found-in-Ok-clause-faults : goal.returns-in_err-serve_found-in-Ok-clause-faults
returns-in_err-serve_found-in-Ok-clause-faults g c =
    let p = err_from_is_err_and c.from_residual-in_err-serve_found-in-Ok.result c.from_residual-in_err-serve_found-in-Ok.ensures.1 in
    let s0 = g.R.SectorDisk.state c.args.rig.now in
    let s1 = g.R.SectorDisk.state c.find_image.new.disk in
    let s2 = g.R.SectorDisk.state c.serve_found.new.rig in
    rig_handed s0 s1 s2 c.find_image.ensures.reads.faults (omega (arith, c.find_image.ensures.reads.sink.faults)) (Rose (g.S.Source.stream c.args.source.now).faults (g.S.Source.stream c.serve_found.new.source).faults) _ p.0 c.from_residual-in_err-serve_found-in-Ok.result c.in_err-serve_found-in-Ok.ensures.faults p.1 p.2

pub returns-in_ok-serve_found-in-Ok-clause-faults : goal.returns-in_ok-serve_found-in-Ok-clause-faults
returns-in_ok-serve_found-in-Ok-clause-faults g c =
    let s0 = g.R.SectorDisk.state c.args.rig.now in
    let s1 = g.R.SectorDisk.state c.find_image.new.disk in
    let s2 = g.R.SectorDisk.state c.serve_found.new.rig in
    rig_fine s0 s2 s2 (omega (arith, c.find_image.ensures.reads.faults, c.serve_found.ensures.faults.later)) (omega (arith, c.find_image.ensures.reads.sink.faults, c.serve_found.ensures.faults.sink_later)) (Rose (g.S.Source.stream c.args.source.now).faults (g.S.Source.stream c.serve_found.new.source).faults) _

pub returns-in_err-plan-clause-many : goal.returns-in_err-plan-clause-many
returns-in_err-plan-clause-many g c told is =
    let p = err_from_is_err_and c.from_residual.result c.from_residual.ensures.1 in
    absurd (no_trouble _ p.0 c.from_residual.result p.1 p.2 is)

pub returns-in_err-serve_found-in-Ok-clause-many : goal.returns-in_err-serve_found-in-Ok-clause-many
returns-in_err-serve_found-in-Ok-clause-many g c told is =
    let p = err_from_is_err_and c.from_residual-in_err-serve_found-in-Ok.result c.from_residual-in_err-serve_found-in-Ok.ensures.1 in
    c.in_err-serve_found-in-Ok.ensures.many told (too_many _ p.0 c.from_residual-in_err-serve_found-in-Ok.result p.1 p.2 is)

pub returns-in_err-plan-clause-unfound : goal.returns-in_err-plan-clause-unfound
returns-in_err-plan-clause-unfound g c tells none =
    let p = err_from_is_err_and c.from_residual.result c.from_residual.ensures.1 in
    trouble_stops _ p.0 c.from_residual.result p.1 p.2

pub returns-in_err-serve_found-in-Ok-clause-unfound : goal.returns-in_err-serve_found-in-Ok-clause-unfound
returns-in_err-serve_found-in-Ok-clause-unfound g c tells none =
    let s0 = g.R.SectorDisk.state c.args.rig.now in
    let image = content s0 in
    let plan = c.in-Ok.plan in
    let found = subst (λ (r : Result Plan MountRefusal). IfOk r (IsFound image)) c.in-Ok.is (c.in_ok-plan.ensures.found tells) in
    let fits = subst (λ (r : Result Plan MountRefusal). IfOk r (FitsPlan s0.sectors)) c.in-Ok.is c.in_ok-plan.ensures.fits in
    absurd (none (found.opened.capacity, replayed (journal_of plan) image, found_mounts image plan s0.sectors fits found.opened found.sound))

pub returns-in_err-plan-clause-same : goal.returns-in_err-plan-clause-same
returns-in_err-plan-clause-same g c = c.find_image.ensures.reads.same

pub returns-in-Err-clause-same : goal.returns-in-Err-clause-same
returns-in-Err-clause-same g c = c.find_image.ensures.reads.same

pub returns-in_err-serve_found-in-Ok-clause-same : goal.returns-in_err-serve_found-in-Ok-clause-same
returns-in_err-serve_found-in-Ok-clause-same g c = disks_both c.find_image.ensures.reads.same c.serve_found.ensures.same

pub returns-in_ok-serve_found-in-Ok-clause-same : goal.returns-in_ok-serve_found-in-Ok-clause-same
returns-in_ok-serve_found-in-Ok-clause-same g c = disks_both c.find_image.ensures.reads.same c.serve_found.ensures.same

pub returns-in_ok-serve_found-in-Ok-clause-commits : goal.returns-in_ok-serve_found-in-Ok-clause-commits
returns-in_ok-serve_found-in-Ok-clause-commits g c tells =
    let reads = c.find_image.ensures.reads in
    let served = c.in_ok-serve_found-in-Ok.ensures.commits (reads.same.tells ∙ tells) in
    (served.0, served.1, run_behind _ g.K.Speaker.often 8 0 1 served.0 _ _ _ served.2 (omega (arith, reads.barriers)))

pub returns-in_err-plan-clause-cut : goal.returns-in_err-plan-clause-cut
returns-in_err-plan-clause-cut g c tells = on_err c.from_residual.result (0, λ told. omega arith, run_none _ g.K.Speaker.often 8 2 _ _ (omega (arith, c.find_image.ensures.reads.barriers)))

pub returns-in_err-serve_found-in-Ok-clause-cut : goal.returns-in_err-serve_found-in-Ok-clause-cut
returns-in_err-serve_found-in-Ok-clause-cut g c tells =
    let reads = c.find_image.ensures.reads in
    let served = c.in_err-serve_found-in-Ok.ensures.cut (reads.same.tells ∙ tells) in
    on_err c.from_residual-in_err-serve_found-in-Ok.result (served.0, served.1, run_behind _ g.K.Speaker.often 8 0 2 served.0 _ _ _ served.2 (omega (arith, reads.barriers)))
