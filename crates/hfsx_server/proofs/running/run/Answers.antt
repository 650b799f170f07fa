use Rattle.std.proofs.Common.{◌≡◌, ◌∙◌, ℕ, List, length, Result, Err, map, inl, inr, ⊎_elim, refl, sym, ap, subst, arith}
use Rattle.std.specs.Prelude.{IfErr, IfOk, IsTrue, OnOk}
use Rattle.sector_disk.specs.Disk.{OnlyReads, content}
use Rattle.fsck_list.specs.declared.finding.Finding.{Finding}
use Rattle.fsck_core.specs.Wants.{as_found}
use Rattle.hfs_volume.specs.Mount.{IsMountable}
use Rattle.hfs_serving.specs.Checking.{RefusesMount}
use Rattle.hfs_language.specs.Lines.{lines}
use Rattle.hfs_serving.specs.Commits.{CommitsRun, WantsOver}
use Rattle.hfs_serving.specs.Ending.{FinishesRun}
use Rattle.hfs_serving.specs.Watching.{FinishesHeard}
use Rattle.hfs_serving.specs.declared.checking.MountRefusal.{MountRefusal}
use Rattle.hfs_serving.specs.declared.telling.Stop.{Stop}
use Rattle.hfs_serving.specs.declared.telling.Stop.TheVariants as stop
use Rattle.hfsx_server.specs.Telling.{ToldUnlessFailed, mount_text}
use Rattle.served_volume.specs.Wanting.{ServedWants}
use Rattle.hfsx_server.proofs.Finding.{unmounted}
use Rattle.hfsx_server.proofs.Statuses.{is_disk, is_many, is_sink, is_source, no_done, no_refused, no_usage, stopped_status}
use Rattle.hfsx_server.proofs.Telling.{told_from}
use Rattle.hfsx_server.proofs.running.run.Goals as goal

-- ---- refused

pub returns-in-Ok-Err-clause-refused : goal.returns-in-Ok-Err-clause-refused
returns-in-Ok-Err-clause-refused g c tells _ =
    let s0 = g.R.SectorDisk.state c.args.rig.now in
    let s1 = g.R.SectorDisk.state c.serve_image.new.rig in
    let s2 = g.R.SectorDisk.state c.tell_mount.new.rig in
    let found = c.serve_image.new.checker.found in
    let why = c.in-Ok-Err.why in
    let refuses = subst (λ (a : Result (Unit {0}) MountRefusal). IfErr a (RefusesMount (content s0) (map as_found found))) c.in-Ok-Err.field-0-is (c.in-Ok-Err.ensures.refused tells) in
    let reads = subst (λ (a : Result (Unit {0}) MountRefusal). IfErr a (λ _. OnlyReads s0 s1)) c.in-Ok-Err.field-0-is c.in-Ok-Err.ensures.unwritten in (
      found,
      why,
      refuses,
      told_from s0 s1 s2 (mount_text found why) reads.sink.told reads.sink.faults (subst (λ (l : List Finding). ToldUnlessFailed s1 s2 (mount_text l why)) c.as_slice.ensures.items (c.tell_mount.ensures.told (reads.same.tells ∙ tells))),
    )

pub returns-in-Ok-Err-clause-unwritten : goal.returns-in-Ok-Err-clause-unwritten
returns-in-Ok-Err-clause-unwritten g c _ =
    let s0 = g.R.SectorDisk.state c.args.rig.now in
    let s1 = g.R.SectorDisk.state c.serve_image.new.rig in
    let reads = subst (λ (a : Result (Unit {0}) MountRefusal). IfErr a (λ _. OnlyReads s0 s1)) c.in-Ok-Err.field-0-is c.in-Ok-Err.ensures.unwritten in
    c.tell_mount.ensures.candidates ∙ reads.candidates

pub returns-in-Ok-Err-clause-headline : goal.returns-in-Ok-Err-clause-headline
returns-in-Ok-Err-clause-headline g c tells settled capacity start mounts =
    let c0 = content (g.R.SectorDisk.state c.args.rig.now) in
    let found = map as_found c.serve_image.new.checker.found in
    let refuses = subst (λ (a : Result (Unit {0}) MountRefusal). IfErr a (RefusesMount c0 found)) c.in-Ok-Err.field-0-is (c.in-Ok-Err.ensures.refused tells) in
    absurd (unmounted c0 found c.in-Ok-Err.why refuses (capacity, start, mounts))

pub returns-in-Ok-Err-clause-disk : goal.returns-in-Ok-Err-clause-disk
returns-in-Ok-Err-clause-disk g c =
    let faults = c.tell_mount.ensures.faults in
    record { later = omega (arith, c.serve_image.ensures.faults.later, faults); rose = λ is. absurd (cc is) }

pub returns-in-Ok-Err-clause-sink : goal.returns-in-Ok-Err-clause-sink
returns-in-Ok-Err-clause-sink g c = record { later = omega (arith, c.serve_image.ensures.faults.sink_later, c.tell_mount.ensures.sink); rose = λ is. absurd (cc is) }

pub returns-in-Ok-Err-clause-source : goal.returns-in-Ok-Err-clause-source
returns-in-Ok-Err-clause-source g c = record { later = c.serve_image.ensures.later; rose = λ is. absurd (cc is) }

pub returns-in-Ok-Err-clause-same : goal.returns-in-Ok-Err-clause-same
returns-in-Ok-Err-clause-same g c =
    let first = c.serve_image.ensures.same in
    let second = c.tell_mount.ensures.same in
    record { tells = second.tells ∙ first.tells; tells_left = second.tells_left ∙ first.tells_left; names = second.names ∙ first.names; sectors = second.sectors ∙ first.sectors }

-- ---- served to the end

pub returns-in-Ok-Ok-clause-refuses : goal.returns-in-Ok-Ok-clause-refuses
returns-in-Ok-Ok-clause-refuses g c tells none =
    let c0 = content (g.R.SectorDisk.state c.args.rig.now) in
    absurd (none (subst (λ (a : Result (Unit {0}) MountRefusal). OnOk a (IsMountable c0)) c.in-Ok-Ok.field-0-is (c.in-Ok-Ok.ensures.served tells)))

pub returns-in-Ok-Ok-clause-headline : goal.returns-in-Ok-Ok-clause-headline
returns-in-Ok-Ok-clause-headline g c tells settled capacity start mounts = c.serve_image.ensures.promises tells settled capacity start mounts

pub returns-in-Ok-Ok-clause-finished : goal.returns-in-Ok-Ok-clause-finished
returns-in-Ok-Ok-clause-finished g c tells settled capacity start mounts _ =
    let r0 = g.R.SectorDisk.state c.args.rig.now in
    let r1 = g.R.SectorDisk.state c.serve_image.new.rig in
    let s0 = g.S.Source.stream c.args.source.now in
    let s1 = g.S.Source.stream c.serve_image.new.source in
    subst (λ (a : Result (Unit {0}) MountRefusal). OnOk a (FinishesRun capacity start r0 s0 r1 s1)) c.in-Ok-Ok.field-0-is (c.in-Ok-Ok.ensures.done tells settled capacity start mounts)

pub returns-in-Ok-Ok-clause-disk : goal.returns-in-Ok-Ok-clause-disk
returns-in-Ok-Ok-clause-disk g c = record { later = c.serve_image.ensures.faults.later; rose = λ is. absurd (cc is) }

pub returns-in-Ok-Ok-clause-sink : goal.returns-in-Ok-Ok-clause-sink
returns-in-Ok-Ok-clause-sink g c = record { later = c.serve_image.ensures.faults.sink_later; rose = λ is. absurd (cc is) }

pub returns-in-Ok-Ok-clause-source : goal.returns-in-Ok-Ok-clause-source
returns-in-Ok-Ok-clause-source g c = record { later = c.serve_image.ensures.later; rose = λ is. absurd (cc is) }

-- ---- ended before

pub returns-clause-refused : goal.returns-clause-refused
returns-clause-refused g c tells is = absurd (no_refused c.in-Err.stop (sym c.status_of.ensures ∙ is))

pub returns-clause-refuses : goal.returns-clause-refuses
returns-clause-refuses g c tells none = ⊎_elim (λ disk. inr (inl (c.status_of.ensures ∙ stopped_status c.in-Err.stop stop.Disk disk))) (λ memory. inr (inr (c.status_of.ensures ∙ stopped_status c.in-Err.stop stop.Memory memory))) (c.in-Err.ensures.unfound tells none)

pub returns-clause-unwritten : goal.returns-clause-unwritten
returns-clause-unwritten g c is = absurd (no_refused c.in-Err.stop (sym c.status_of.ensures ∙ is))

pub returns-clause-headline : goal.returns-clause-headline
returns-clause-headline g c tells settled capacity start mounts = c.serve_image.ensures.promises tells settled capacity start mounts

pub returns-clause-finished : goal.returns-clause-finished
returns-clause-finished g c tells settled capacity start mounts is = absurd (no_done c.in-Err.stop (sym c.status_of.ensures ∙ is))

pub returns-clause-source_stopped : goal.returns-clause-source_stopped
returns-clause-source_stopped g c tells settled capacity start mounts is =
    c.serve_image.ensures.stopped tells settled capacity start mounts (c.in-Err.is ∙ ap Err (is_source c.in-Err.stop (sym c.status_of.ensures ∙ is)))

pub returns-clause-many_stopped : goal.returns-clause-many_stopped
returns-clause-many_stopped g c tells settled capacity start mounts is =
    c.serve_image.ensures.to_the_last tells settled capacity start mounts (c.in-Err.is ∙ ap Err (is_many c.in-Err.stop (sym c.status_of.ensures ∙ is)))

pub returns-clause-end : goal.returns-clause-end
returns-clause-end g c told is = absurd (no_done c.in-Err.stop (sym c.status_of.ensures ∙ is))

pub returns-clause-few : goal.returns-clause-few
returns-clause-few g c told is = absurd (no_done c.in-Err.stop (sym c.status_of.ensures ∙ is))

pub returns-clause-many : goal.returns-clause-many
returns-clause-many g c told is = c.serve_image.ensures.many told (c.in-Err.is ∙ ap Err (is_many c.in-Err.stop (sym c.status_of.ensures ∙ is)))

pub returns-clause-no_usage : goal.returns-clause-no_usage
returns-clause-no_usage g c is = no_usage c.in-Err.stop (sym c.status_of.ensures ∙ is)

pub returns-clause-disk : goal.returns-clause-disk
returns-clause-disk g c = record { later = c.serve_image.ensures.faults.later; rose = λ is. c.serve_image.ensures.faults.disk (c.in-Err.is ∙ ap Err (is_disk c.in-Err.stop (sym c.status_of.ensures ∙ is))) }

pub returns-clause-sink : goal.returns-clause-sink
returns-clause-sink g c = record { later = c.serve_image.ensures.faults.sink_later; rose = λ is. c.serve_image.ensures.faults.sink (c.in-Err.is ∙ ap Err (is_sink c.in-Err.stop (sym c.status_of.ensures ∙ is))) }

pub returns-clause-source : goal.returns-clause-source
returns-clause-source g c = record { later = c.serve_image.ensures.later; rose = λ is. c.serve_image.ensures.faults.source (c.in-Err.is ∙ ap Err (is_source c.in-Err.stop (sym c.status_of.ensures ∙ is))) }

-- ---- watched

pub returns-in-Ok-Err-clause-watched : goal.returns-in-Ok-Err-clause-watched
returns-in-Ok-Err-clause-watched g c =
    let c0 = content (g.R.SectorDisk.state c.args.rig.now) in
    let found = map as_found c.serve_image.new.checker.found in
    let watched = c.serve_image.ensures.watched in (
      watched.0,
      watched.1,
      λ tells settled capacity start mounts.
          let refuses = subst (λ (a : Result (Unit {0}) MountRefusal). IfErr a (RefusesMount c0 found)) c.in-Ok-Err.field-0-is (c.in-Ok-Err.ensures.refused tells) in
          absurd (unmounted c0 found c.in-Ok-Err.why refuses (capacity, start, mounts)),
    )

pub returns-in-Ok-Ok-clause-watched : goal.returns-in-Ok-Ok-clause-watched
returns-in-Ok-Ok-clause-watched g c =
    let r0 = g.R.SectorDisk.state c.args.rig.now in
    let r1 = g.R.SectorDisk.state c.serve_image.new.rig in
    let s0 = g.S.Source.stream c.args.source.now in
    let s1 = g.S.Source.stream c.serve_image.new.source in
    let watched = c.serve_image.ensures.watched in (
      watched.0,
      watched.1,
      λ tells settled capacity start mounts.
          let all = watched.2 tells settled capacity start mounts in
          let ends = subst (λ (a : Result (Result (Unit {0}) MountRefusal) Stop). IfOk a (λ answer. OnOk answer (FinishesHeard watched.0 capacity start r0 s0 r1 s1))) c.in-Ok-Ok.is all.1 in
          record {
            keeps = all.0;
            finished = λ _. subst (λ (a : Result (Unit {0}) MountRefusal). OnOk a (FinishesHeard watched.0 capacity start r0 s0 r1 s1)) c.in-Ok-Ok.field-0-is ends;
            stopped = λ is. absurd (cc is);
            last = λ is. absurd (cc is);
          },
    )

pub returns-clause-watched : goal.returns-clause-watched
returns-clause-watched g c =
    let watched = c.serve_image.ensures.watched in (
      watched.0,
      watched.1,
      λ tells settled capacity start mounts.
          let all = watched.2 tells settled capacity start mounts in
          record {
            keeps = all.0;
            finished = λ is. absurd (no_done c.in-Err.stop (sym c.status_of.ensures ∙ is));
            stopped = λ is. all.2 (c.in-Err.is ∙ ap Err (is_source c.in-Err.stop (sym c.status_of.ensures ∙ is)));
            last = λ is. all.3 (c.in-Err.is ∙ ap Err (is_many c.in-Err.stop (sym c.status_of.ensures ∙ is)));
          },
    )

pub returns-in-Ok-Ok-clause-commits : goal.returns-in-Ok-Ok-clause-commits
returns-in-Ok-Ok-clause-commits g c tells _ =
    let r0 = g.R.SectorDisk.state c.args.rig.now in
    let r1 = g.R.SectorDisk.state c.serve_image.new.rig in
    let s0 = g.S.Source.stream c.args.source.now in
    subst (λ (a : Result (Unit {0}) MountRefusal). OnOk a ((count : ℕ) × (IsTrue s0.tells → count ≡ length (lines s0.left)) × CommitsRun (WantsOver ServedWants g.R.SectorDisk.state) 9 8 1 count r0.barriers r1.barriers)) c.in-Ok-Ok.field-0-is (c.in-Ok-Ok.ensures.commits tells)

pub returns-clause-commits : goal.returns-clause-commits
returns-clause-commits g c tells is = absurd (no_done c.in-Err.stop (sym c.status_of.ensures ∙ is))

pub returns-in-Ok-Ok-clause-cut : goal.returns-in-Ok-Ok-clause-cut
returns-in-Ok-Ok-clause-cut g c tells not_done not_refused = absurd (not_done refl)

pub returns-in-Ok-Err-clause-cut : goal.returns-in-Ok-Err-clause-cut
returns-in-Ok-Err-clause-cut g c tells not_done not_refused = absurd (not_refused refl)

pub returns-clause-cut : goal.returns-clause-cut
returns-clause-cut g c tells not_done not_refused = c.in-Err.ensures.cut tells
