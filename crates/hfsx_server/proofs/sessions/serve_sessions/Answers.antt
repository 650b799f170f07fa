use Rattle.std.proofs.Common.{◌≡◌, ◌∙◌, [], ℕ, List, Option, Result, Some, Vec, Global, ap, map, refl, subst, sym}
use Rattle.std.specs.Prelude.{IfErr, IfOk, IsTrue, MatchOption, None}
use Rattle.std.proofs.lemmas.Bool.{true≢false}
use Rattle.sector_disk.specs.Disk.{content}
use Rattle.sector_disk.proofs.Writing.{reads_both}
use Rattle.jnl_format.specs.Recovery.{Content, replayed}
use Rattle.jnl_replay.specs.Plan.{FitsPlan, journal_of}
use Rattle.jnl_replay.specs.declared.plan.Plan.{Plan}
use Rattle.fsck_list.specs.declared.finding.Finding.{Finding}
use Rattle.fsck_core.specs.Wants.{as_found}
use Rattle.hfs_volume.specs.Findings.{HasBytes}
use Rattle.hfs_volume.specs.Mount.{Mounts}
use Rattle.hfs_volume.specs.TreeOf.{tree_of}
use Rattle.hfs_serving.specs.Checking.{IsFound, RefusesMount}
use Rattle.hfs_serving.specs.Ending.{EndsTaking, IsFinal}
use Rattle.hfs_serving.specs.declared.checking.MountRefusal.{MountRefusal}
use Rattle.hfs_serving.specs.declared.telling.Stop.{Stop}
use Rattle.hfs_serving.proofs.ContentBytes.{content_bytes, replayed_bytes}
use Rattle.hfs_serving.proofs.Served.{found_mounts, mounts_one, reads_content, reads_settled}
use Rattle.session_lines.specs.Keepers.{FindsFiles}
use Rattle.watchers.proofs.Tellings.{told_nothing}
use Rattle.hfsx_server.specs.Telling.{ToldUnlessFailed, mount_text, taken_text}
use Rattle.hfsx_server.proofs.Finding.{unmounted}
use Rattle.hfsx_server.proofs.SessionRuns.{answers_on, keeps_on, sessions_refused, sessions_taken, sessions_unserved, trouble_ends}
use Rattle.hfsx_server.proofs.Statuses.{is_many, is_source, no_done, no_refused}
use Rattle.hfsx_server.proofs.Telling.{told_from}
use Rattle.hfsx_server.proofs.sessions.serve_sessions.Goals as goal

pub returns-in-Ok-Err-clause-serves : goal.returns-in-Ok-Err-clause-serves
returns-in-Ok-Err-clause-serves g c =
    let s0 = g.R.SectorDisk.state c.args.rig.now in
    let s1 = g.R.SectorDisk.state c.find_image.new.disk in
    let s2 = g.R.SectorDisk.state c.tell_mount.new.rig in
    let found = c.find_image.new.checker.found in
    let why = c.in-Ok-Err.why in
    let reads = c.find_image.ensures.reads in
    sessions_refused s0 s2 (g.S.Source.stream c.args.source.now)
    (λ tells. (
      found,
      why,
      subst (λ (a : Result Plan MountRefusal). IfErr a (RefusesMount (content s0) (map as_found found))) c.in-Ok-Err.field-0-is (c.in-Ok-Err.ensures.refused tells),
      told_from s0 s1 s2 (mount_text found why) reads.sink.told reads.sink.faults (subst (λ (l : List Finding). ToldUnlessFailed s1 s2 (mount_text l why)) c.as_slice.ensures.items (c.tell_mount.ensures.told (reads.same.tells ∙ tells))),
    ))
    (λ tells. unmounted (content s0) (map as_found found) why (subst (λ (a : Result Plan MountRefusal). IfErr a (RefusesMount (content s0) (map as_found found))) c.in-Ok-Err.field-0-is (c.in-Ok-Err.ensures.refused tells)))

pub returns-in-Ok-Err-clause-watched : goal.returns-in-Ok-Err-clause-watched
returns-in-Ok-Err-clause-watched g c = ([], λ stay. told_nothing _ _ c.args.watchers.now.items stay)

pub returns-in-Err-clause-serves : goal.returns-in-Err-clause-serves
returns-in-Err-clause-serves g c =
    sessions_unserved (g.R.SectorDisk.state c.args.rig.now) (g.R.SectorDisk.state c.find_image.new.disk) (g.met.R.SectorDisk.only_now c.args.rig.now) c.find_image.ensures.reads (g.S.Source.stream c.args.source.now) c.trouble_status.result
    (trouble_ends c.in-Err.trouble c.trouble_status.result c.trouble_status.ensures)

pub returns-in-Err-clause-watched : goal.returns-in-Err-clause-watched
returns-in-Err-clause-watched g c = ([], λ stay. told_nothing _ _ c.args.watchers.now.items stay)

pub returns-in-Ok-None-clause-serves : goal.returns-in-Ok-None-clause-serves
returns-in-Ok-None-clause-serves g c =
    let s0 = g.R.SectorDisk.state c.args.rig.now in
    let s1 = g.R.SectorDisk.state c.find_image.new.disk in
    let s2 = g.R.SectorDisk.state c.find_files.new.rig in
    let image = content s0 in
    let plan = c.in-Ok-Ok.plan in
    let first = c.find_image.ensures.reads in
    let reads = reads_both s0 s1 s2 first c.find_files.ensures.reads in
    let fits = subst (λ (r : Result Plan MountRefusal). IfOk r (FitsPlan s0.sectors)) c.in-Ok-Ok.field-0-is c.in-Ok-Ok.ensures.fits in
    let s3 = g.R.SectorDisk.state c.tell_taken.new.rig in
    sessions_taken s0 s3 (g.S.Source.stream c.args.source.now)
    (λ tells.
    let found = subst (λ (r : Result Plan MountRefusal). IfOk r (IsFound image)) c.in-Ok-Ok.field-0-is (c.in-Ok-Ok.ensures.found tells) in
    let start = replayed (journal_of plan) image in
    let capacity = found.opened.capacity in
    let mounts = found_mounts image plan s0.sectors fits found.opened found.sound in (
      capacity,
      start,
      mounts,
      subst (λ (o : Option (Vec ℕ Global)). MatchOption o (FindsFiles (tree_of start) None) (λ files. FindsFiles (tree_of start) (Some files.items))) c.in-Ok-None.field-0-is
          (c.in-Ok-None.ensures.found (first.same.tells ∙ tells) capacity start (subst (λ (x : Content). Mounts x capacity start) (sym (reads_content s0 s1 first)) mounts)),
      told_from s0 s2 s3 taken_text reads.sink.told reads.sink.faults (c.tell_taken.ensures.told (reads.same.tells ∙ tells)),
    ))
    (λ tells capacity start mounts. subst (λ (o : Option (Vec ℕ Global)). MatchOption o (FindsFiles (tree_of start) None) (λ files. FindsFiles (tree_of start) (Some files.items))) c.in-Ok-None.field-0-is
    (c.in-Ok-None.ensures.found (first.same.tells ∙ tells) capacity start (subst (λ (x : Content). Mounts x capacity start) (sym (reads_content s0 s1 first)) mounts)))

pub returns-in-Ok-None-clause-watched : goal.returns-in-Ok-None-clause-watched
returns-in-Ok-None-clause-watched g c = ([], λ stay. told_nothing _ _ c.args.watchers.now.items stay)

pub returns-in-Err-find_files-clause-serves : goal.returns-in-Err-find_files-clause-serves
returns-in-Err-find_files-clause-serves g c =
    let s0 = g.R.SectorDisk.state c.args.rig.now in
    let s1 = g.R.SectorDisk.state c.find_image.new.disk in
    let s2 = g.R.SectorDisk.state c.find_files.new.rig in
    sessions_unserved s0 s2 (g.met.R.SectorDisk.only_now c.args.rig.now) (reads_both s0 s1 s2 c.find_image.ensures.reads c.find_files.ensures.reads) (g.S.Source.stream c.args.source.now) c.trouble_status-in-Err-find_files.result
    (trouble_ends c.in-Err-find_files.trouble c.trouble_status-in-Err-find_files.result c.trouble_status-in-Err-find_files.ensures)

pub returns-in-Err-find_files-clause-watched : goal.returns-in-Err-find_files-clause-watched
returns-in-Err-find_files-clause-watched g c = ([], λ stay. told_nothing _ _ c.args.watchers.now.items stay)

pub returns-in-Ok-clause-serves : goal.returns-in-Ok-clause-serves
returns-in-Ok-clause-serves g c =
    let s0 = g.R.SectorDisk.state c.args.rig.now in
    let s1 = g.R.SectorDisk.state c.find_image.new.disk in
    let s2 = g.R.SectorDisk.state c.find_files.new.rig in
    let image = content s0 in
    let plan = c.in-Ok-Ok.plan in
    let first = c.find_image.ensures.reads in
    let reads = reads_both s0 s1 s2 first c.find_files.ensures.reads in
    let fits = subst (λ (r : Result Plan MountRefusal). IfOk r (FitsPlan s0.sectors)) c.in-Ok-Ok.field-0-is c.in-Ok-Ok.ensures.fits in
    let s3 = g.R.SectorDisk.state c.serve_found.new.rig in
    let source = g.S.Source.stream c.args.source.now in
    let source_new = g.S.Source.stream c.serve_found.new.source in
    let files = c.in-Ok-Some.files.items in
    let table = c.new-speaker.result.table in
    let had = c.new-speaker.result.left.items in
    let heard = c.serve_found.ensures.promises.0 in
    let from = replayed (journal_of plan) (content s2) in
    record {
      refused = λ tells is. absurd (cc is);
      refuses = λ tells none. let found = subst (λ (r : Result Plan MountRefusal). IfOk r (IsFound image)) c.in-Ok-Ok.field-0-is (c.in-Ok-Ok.ensures.found tells) in absurd (none (found.opened.capacity, replayed (journal_of plan) image, found_mounts image plan s0.sectors fits found.opened found.sound));
      taken = λ tells capacity start mounts it. absurd (true≢false (sym it ∙ (subst (λ (o : Option (Vec ℕ Global)). MatchOption o (FindsFiles (tree_of start) None) (λ files. FindsFiles (tree_of start) (Some files.items))) c.in-Ok-Some.field-0-is
          (c.in-Ok-Some.ensures.found (first.same.tells ∙ tells) capacity start (subst (λ (x : Content). Mounts x capacity start) (sym (reads_content s0 s1 first)) mounts))).0));
      keeps = λ tells settled capacity start mounts own.
          let found = subst (λ (r : Result Plan MountRefusal). IfOk r (IsFound image)) c.in-Ok-Ok.field-0-is (c.in-Ok-Ok.ensures.found tells) in
          let one = mounts_one image plan s0.sectors fits found.opened capacity start mounts in
          let same : from ≡ start = ap (replayed (journal_of plan)) (reads_content s0 s2 reads) ∙ sym one.0 in
          let bytes = subst HasBytes (sym one.0) (replayed_bytes (journal_of plan) image (content_bytes s0 (g.met.R.SectorDisk.well_formed c.args.rig.now))) in
          let finds = subst (λ (o : Option (Vec ℕ Global)). MatchOption o (FindsFiles (tree_of start) None) (λ files. FindsFiles (tree_of start) (Some files.items))) c.in-Ok-Some.field-0-is
          (c.in-Ok-Some.ensures.found (first.same.tells ∙ tells) capacity start (subst (λ (x : Content). Mounts x capacity start) (sym (reads_content s0 s1 first)) mounts)) in
          let may = c.sound_trees_may_begin.ensures.begin start files mounts.sound bytes finds.0 finds.1 in
          c.runs_keep_sessions.ensures.broken capacity start files heard source source_new c.args.rig.now c.serve_found.new.rig may
          (keeps_on capacity from start same table c.new-speaker.ensures.table had files (ap (λ (v : Vec ℕ Global). v.items) c.new-speaker.ensures.left) heard s0 s3 source source_new (c.serve_found.ensures.promises.2 (reads.same.tells ∙ tells) (reads_settled s0 s2 reads settled) capacity one.1 c.args.rig.now reads));
      finished = λ tells settled capacity start mounts own is.
          let found = subst (λ (r : Result Plan MountRefusal). IfOk r (IsFound image)) c.in-Ok-Ok.field-0-is (c.in-Ok-Ok.ensures.found tells) in
          let one = mounts_one image plan s0.sectors fits found.opened capacity start mounts in
          let same : from ≡ start = ap (replayed (journal_of plan)) (reads_content s0 s2 reads) ∙ sym one.0 in
          let bytes = subst HasBytes (sym one.0) (replayed_bytes (journal_of plan) image (content_bytes s0 (g.met.R.SectorDisk.well_formed c.args.rig.now))) in
          let finds = subst (λ (o : Option (Vec ℕ Global)). MatchOption o (FindsFiles (tree_of start) None) (λ files. FindsFiles (tree_of start) (Some files.items))) c.in-Ok-Some.field-0-is
          (c.in-Ok-Some.ensures.found (first.same.tells ∙ tells) capacity start (subst (λ (x : Content). Mounts x capacity start) (sym (reads_content s0 s1 first)) mounts)) in
          let may = c.sound_trees_may_begin.ensures.begin start files mounts.sound bytes finds.0 finds.1 in
          let there = c.in-Ok.ensures.promises.3 tt in
          c.runs_keep_sessions.ensures.ended capacity start files c.serve_found.new.speaker.left.items c.serve_found.new.speaker.table c.in-Ok.ensures.promises.0 source source_new there.0 c.args.rig.now c.serve_found.new.rig may
          (answers_on capacity from start same table c.new-speaker.ensures.table had files (ap (λ (v : Vec ℕ Global). v.items) c.new-speaker.ensures.left) c.in-Ok.ensures.promises.0 s0 s3 source source_new there.0 c.serve_found.new.speaker.table c.serve_found.new.speaker.left.items (there.3 (reads.same.tells ∙ tells) (reads_settled s0 s2 reads settled) capacity one.1 c.args.rig.now reads)) (c.has_released.ensures (subst (λ b. IsTrue b) (sym c.if-not-has_released.false) refl)) (c.in-Ok.ensures.away (reads.same.tells ∙ tells)) (λ told. (there.1 told).1);
      stopped = λ tells settled capacity start mounts own is. absurd (cc is);
      last = λ tells settled capacity start mounts own is. absurd (cc is);
      end = λ told is. c.in-Ok.ensures.end told;
      few = λ told is. c.in-Ok.ensures.few told;
    }

pub returns-then-not-has_released-clause-serves : goal.returns-then-not-has_released-clause-serves
returns-then-not-has_released-clause-serves g c =
    let s0 = g.R.SectorDisk.state c.args.rig.now in
    let s1 = g.R.SectorDisk.state c.find_image.new.disk in
    let s2 = g.R.SectorDisk.state c.find_files.new.rig in
    let image = content s0 in
    let plan = c.in-Ok-Ok.plan in
    let first = c.find_image.ensures.reads in
    let reads = reads_both s0 s1 s2 first c.find_files.ensures.reads in
    let fits = subst (λ (r : Result Plan MountRefusal). IfOk r (FitsPlan s0.sectors)) c.in-Ok-Ok.field-0-is c.in-Ok-Ok.ensures.fits in
    let s3 = g.R.SectorDisk.state c.serve_found.new.rig in
    let source = g.S.Source.stream c.args.source.now in
    let source_new = g.S.Source.stream c.serve_found.new.source in
    let files = c.in-Ok-Some.files.items in
    let table = c.new-speaker.result.table in
    let had = c.new-speaker.result.left.items in
    let heard = c.serve_found.ensures.promises.0 in
    let from = replayed (journal_of plan) (content s2) in
    record {
      refused = λ tells is. absurd (cc is);
      refuses = λ tells none. let found = subst (λ (r : Result Plan MountRefusal). IfOk r (IsFound image)) c.in-Ok-Ok.field-0-is (c.in-Ok-Ok.ensures.found tells) in absurd (none (found.opened.capacity, replayed (journal_of plan) image, found_mounts image plan s0.sectors fits found.opened found.sound));
      taken = λ tells capacity start mounts it. absurd (true≢false (sym it ∙ (subst (λ (o : Option (Vec ℕ Global)). MatchOption o (FindsFiles (tree_of start) None) (λ files. FindsFiles (tree_of start) (Some files.items))) c.in-Ok-Some.field-0-is
          (c.in-Ok-Some.ensures.found (first.same.tells ∙ tells) capacity start (subst (λ (x : Content). Mounts x capacity start) (sym (reads_content s0 s1 first)) mounts))).0));
      keeps = λ tells settled capacity start mounts own.
          let found = subst (λ (r : Result Plan MountRefusal). IfOk r (IsFound image)) c.in-Ok-Ok.field-0-is (c.in-Ok-Ok.ensures.found tells) in
          let one = mounts_one image plan s0.sectors fits found.opened capacity start mounts in
          let same : from ≡ start = ap (replayed (journal_of plan)) (reads_content s0 s2 reads) ∙ sym one.0 in
          let bytes = subst HasBytes (sym one.0) (replayed_bytes (journal_of plan) image (content_bytes s0 (g.met.R.SectorDisk.well_formed c.args.rig.now))) in
          let finds = subst (λ (o : Option (Vec ℕ Global)). MatchOption o (FindsFiles (tree_of start) None) (λ files. FindsFiles (tree_of start) (Some files.items))) c.in-Ok-Some.field-0-is
          (c.in-Ok-Some.ensures.found (first.same.tells ∙ tells) capacity start (subst (λ (x : Content). Mounts x capacity start) (sym (reads_content s0 s1 first)) mounts)) in
          let may = c.sound_trees_may_begin.ensures.begin start files mounts.sound bytes finds.0 finds.1 in
          c.runs_keep_sessions.ensures.broken capacity start files heard source source_new c.args.rig.now c.serve_found.new.rig may
          (keeps_on capacity from start same table c.new-speaker.ensures.table had files (ap (λ (v : Vec ℕ Global). v.items) c.new-speaker.ensures.left) heard s0 s3 source source_new (c.serve_found.ensures.promises.2 (reads.same.tells ∙ tells) (reads_settled s0 s2 reads settled) capacity one.1 c.args.rig.now reads));
      finished = λ tells settled capacity start mounts own is. absurd (cc is);
      stopped = λ tells settled capacity start mounts own is. absurd (cc is);
      last = λ tells settled capacity start mounts own is. absurd (cc is);
      end = λ told is. absurd (cc is);
      few = λ told is. absurd (cc is);
    }

pub returns-clause-serves : goal.returns-clause-serves
returns-clause-serves g c =
    let s0 = g.R.SectorDisk.state c.args.rig.now in
    let s1 = g.R.SectorDisk.state c.find_image.new.disk in
    let s2 = g.R.SectorDisk.state c.find_files.new.rig in
    let image = content s0 in
    let plan = c.in-Ok-Ok.plan in
    let first = c.find_image.ensures.reads in
    let reads = reads_both s0 s1 s2 first c.find_files.ensures.reads in
    let fits = subst (λ (r : Result Plan MountRefusal). IfOk r (FitsPlan s0.sectors)) c.in-Ok-Ok.field-0-is c.in-Ok-Ok.ensures.fits in
    let s3 = g.R.SectorDisk.state c.serve_found.new.rig in
    let source = g.S.Source.stream c.args.source.now in
    let source_new = g.S.Source.stream c.serve_found.new.source in
    let files = c.in-Ok-Some.files.items in
    let table = c.new-speaker.result.table in
    let had = c.new-speaker.result.left.items in
    let heard = c.serve_found.ensures.promises.0 in
    let from = replayed (journal_of plan) (content s2) in
    let stop = c.in-Err-serve_found.stop in
    record {
      refused = λ tells is. absurd (no_refused stop (sym c.status_of.ensures ∙ is));
      refuses = λ tells none. let found = subst (λ (r : Result Plan MountRefusal). IfOk r (IsFound image)) c.in-Ok-Ok.field-0-is (c.in-Ok-Ok.ensures.found tells) in absurd (none (found.opened.capacity, replayed (journal_of plan) image, found_mounts image plan s0.sectors fits found.opened found.sound));
      taken = λ tells capacity start mounts it. absurd (true≢false (sym it ∙ (subst (λ (o : Option (Vec ℕ Global)). MatchOption o (FindsFiles (tree_of start) None) (λ files. FindsFiles (tree_of start) (Some files.items))) c.in-Ok-Some.field-0-is
          (c.in-Ok-Some.ensures.found (first.same.tells ∙ tells) capacity start (subst (λ (x : Content). Mounts x capacity start) (sym (reads_content s0 s1 first)) mounts))).0));
      keeps = λ tells settled capacity start mounts own.
          let found = subst (λ (r : Result Plan MountRefusal). IfOk r (IsFound image)) c.in-Ok-Ok.field-0-is (c.in-Ok-Ok.ensures.found tells) in
          let one = mounts_one image plan s0.sectors fits found.opened capacity start mounts in
          let same : from ≡ start = ap (replayed (journal_of plan)) (reads_content s0 s2 reads) ∙ sym one.0 in
          let bytes = subst HasBytes (sym one.0) (replayed_bytes (journal_of plan) image (content_bytes s0 (g.met.R.SectorDisk.well_formed c.args.rig.now))) in
          let finds = subst (λ (o : Option (Vec ℕ Global)). MatchOption o (FindsFiles (tree_of start) None) (λ files. FindsFiles (tree_of start) (Some files.items))) c.in-Ok-Some.field-0-is
          (c.in-Ok-Some.ensures.found (first.same.tells ∙ tells) capacity start (subst (λ (x : Content). Mounts x capacity start) (sym (reads_content s0 s1 first)) mounts)) in
          let may = c.sound_trees_may_begin.ensures.begin start files mounts.sound bytes finds.0 finds.1 in
          c.runs_keep_sessions.ensures.broken capacity start files heard source source_new c.args.rig.now c.serve_found.new.rig may
          (keeps_on capacity from start same table c.new-speaker.ensures.table had files (ap (λ (v : Vec ℕ Global). v.items) c.new-speaker.ensures.left) heard s0 s3 source source_new (c.serve_found.ensures.promises.2 (reads.same.tells ∙ tells) (reads_settled s0 s2 reads settled) capacity one.1 c.args.rig.now reads));
      finished = λ tells settled capacity start mounts own is. absurd (no_done stop (sym c.status_of.ensures ∙ is));
      stopped = λ tells settled capacity start mounts own is.
          let found = subst (λ (r : Result Plan MountRefusal). IfOk r (IsFound image)) c.in-Ok-Ok.field-0-is (c.in-Ok-Ok.ensures.found tells) in
          let one = mounts_one image plan s0.sectors fits found.opened capacity start mounts in
          let same : from ≡ start = ap (replayed (journal_of plan)) (reads_content s0 s2 reads) ∙ sym one.0 in
          let bytes = subst HasBytes (sym one.0) (replayed_bytes (journal_of plan) image (content_bytes s0 (g.met.R.SectorDisk.well_formed c.args.rig.now))) in
          let finds = subst (λ (o : Option (Vec ℕ Global)). MatchOption o (FindsFiles (tree_of start) None) (λ files. FindsFiles (tree_of start) (Some files.items))) c.in-Ok-Some.field-0-is
          (c.in-Ok-Some.ensures.found (first.same.tells ∙ tells) capacity start (subst (λ (x : Content). Mounts x capacity start) (sym (reads_content s0 s1 first)) mounts)) in
          let may = c.sound_trees_may_begin.ensures.begin start files mounts.sound bytes finds.0 finds.1 in
          let source_is = is_source stop (sym c.status_of.ensures ∙ is) in
          let there = c.in-Err-serve_found.ensures.promises.3 (subst (λ (s : Stop). IsFinal (Some s)) (sym source_is) tt) in
          record {
            texts = there.0;
            answers = c.runs_keep_sessions.ensures.answered capacity start files c.serve_found.new.speaker.left.items c.serve_found.new.speaker.table c.in-Err-serve_found.ensures.promises.0 source source_new there.0 c.args.rig.now c.serve_found.new.rig may
                (answers_on capacity from start same table c.new-speaker.ensures.table had files (ap (λ (v : Vec ℕ Global). v.items) c.new-speaker.ensures.left) c.in-Err-serve_found.ensures.promises.0 s0 s3 source source_new there.0 c.serve_found.new.speaker.table c.serve_found.new.speaker.left.items (there.3 (reads.same.tells ∙ tells) (reads_settled s0 s2 reads settled) capacity one.1 c.args.rig.now reads));
            whole = λ told. subst (λ (s : Stop). EndsTaking (Some s) [] source there.0 source_new) source_is (there.1 told).1;
          };
      last = λ tells settled capacity start mounts own is.
          let found = subst (λ (r : Result Plan MountRefusal). IfOk r (IsFound image)) c.in-Ok-Ok.field-0-is (c.in-Ok-Ok.ensures.found tells) in
          let one = mounts_one image plan s0.sectors fits found.opened capacity start mounts in
          let same : from ≡ start = ap (replayed (journal_of plan)) (reads_content s0 s2 reads) ∙ sym one.0 in
          let bytes = subst HasBytes (sym one.0) (replayed_bytes (journal_of plan) image (content_bytes s0 (g.met.R.SectorDisk.well_formed c.args.rig.now))) in
          let finds = subst (λ (o : Option (Vec ℕ Global)). MatchOption o (FindsFiles (tree_of start) None) (λ files. FindsFiles (tree_of start) (Some files.items))) c.in-Ok-Some.field-0-is
          (c.in-Ok-Some.ensures.found (first.same.tells ∙ tells) capacity start (subst (λ (x : Content). Mounts x capacity start) (sym (reads_content s0 s1 first)) mounts)) in
          let may = c.sound_trees_may_begin.ensures.begin start files mounts.sound bytes finds.0 finds.1 in
          let many_is = is_many stop (sym c.status_of.ensures ∙ is) in
          let there = c.in-Err-serve_found.ensures.promises.3 (subst (λ (s : Stop). IsFinal (Some s)) (sym many_is) tt) in (
            there.0,
            c.runs_keep_sessions.ensures.answered capacity start files c.serve_found.new.speaker.left.items c.serve_found.new.speaker.table c.in-Err-serve_found.ensures.promises.0 source source_new there.0 c.args.rig.now c.serve_found.new.rig may
                (answers_on capacity from start same table c.new-speaker.ensures.table had files (ap (λ (v : Vec ℕ Global). v.items) c.new-speaker.ensures.left) c.in-Err-serve_found.ensures.promises.0 s0 s3 source source_new there.0 c.serve_found.new.speaker.table c.serve_found.new.speaker.left.items (there.3 (reads.same.tells ∙ tells) (reads_settled s0 s2 reads settled) capacity one.1 c.args.rig.now reads)),
            there.2 (ap Some many_is),
          );
      end = λ told is. absurd (no_done stop (sym c.status_of.ensures ∙ is));
      few = λ told is. absurd (no_done stop (sym c.status_of.ensures ∙ is));
    }
