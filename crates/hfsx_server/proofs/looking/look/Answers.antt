use Rattle.std.proofs.Common.{◌≡◌, ◌∙◌, List, Result, map, sym, ap, subst, arith}
use Rattle.std.specs.Prelude.{IfErr, OnOk}
use Rattle.sector_disk.specs.Disk.{content}
use Rattle.fsck_list.specs.declared.finding.Finding.{Finding}
use Rattle.fsck_core.specs.Wants.{as_found}
use Rattle.hfs_volume.specs.Mount.{IsMountable}
use Rattle.hfs_serving.specs.Checking.{RefusesMount}
use Rattle.hfs_serving.specs.declared.checking.MountRefusal.{MountRefusal}
use Rattle.volume_look.specs.Talk.{Ends, Talk}
use Rattle.hfsx_server.specs.Telling.{ToldUnlessFailed, mount_text}
use Rattle.hfsx_server.proofs.Finding.{unmounted}
use Rattle.hfsx_server.proofs.Telling.{told_from}
use Rattle.hfsx_server.proofs.looking.look.Goals as goal

-- ---- refused

pub returns-in-Ok-Err-clause-right : goal.returns-in-Ok-Err-clause-right
returns-in-Ok-Err-clause-right g c tells told capacity start mounts = c.look_into.ensures.right tells told capacity start mounts

pub returns-in-Ok-Err-clause-refused : goal.returns-in-Ok-Err-clause-refused
returns-in-Ok-Err-clause-refused g c tells _ =
    let s0 = g.R.SectorDisk.state c.args.rig.now in
    let s1 = g.R.SectorDisk.state c.look_into.new.disk in
    let s2 = g.R.SectorDisk.state c.tell_mount.new.rig in
    let found = c.look_into.new.checker.found in
    let why = c.in-Ok-Err.why in
    let refuses = subst (λ (a : Result (Unit {0}) MountRefusal). IfErr a (RefusesMount (content s0) (map as_found found))) c.in-Ok-Err.field-0-is (c.in-Ok-Err.ensures.refused tells) in
    let reads = c.look_into.ensures.reads in (
      (
        found,
        why,
        refuses,
        told_from s0 s1 s2 (mount_text found why) reads.sink.told reads.sink.faults (subst (λ (l : List Finding). ToldUnlessFailed s1 s2 (mount_text l why)) c.as_slice.ensures.items (c.tell_mount.ensures.told (reads.same.tells ∙ tells))),
      ),
      unmounted (content s0) (map as_found found) why refuses,
    )

pub returns-in-Ok-Err-clause-unasked : goal.returns-in-Ok-Err-clause-unasked
returns-in-Ok-Err-clause-unasked g c _ =
    let old = g.A.Asker.state c.args.asker.now in
    let new = g.A.Asker.state c.look_into.new.asker in
    subst (λ (a : Result (Unit {0}) MountRefusal). IfErr a (λ _. new ≡ old)) c.in-Ok-Err.field-0-is c.in-Ok-Err.ensures.unasked

pub returns-in-Ok-Err-clause-unwritten : goal.returns-in-Ok-Err-clause-unwritten
returns-in-Ok-Err-clause-unwritten g c = c.tell_mount.ensures.candidates ∙ c.look_into.ensures.reads.candidates

pub returns-in-Ok-Err-clause-barriers : goal.returns-in-Ok-Err-clause-barriers
returns-in-Ok-Err-clause-barriers g c = c.tell_mount.ensures.barriers ∙ c.look_into.ensures.reads.barriers

pub returns-in-Ok-Err-clause-disk : goal.returns-in-Ok-Err-clause-disk
returns-in-Ok-Err-clause-disk g c =
    let faults = c.tell_mount.ensures.faults in
    record { later = omega (arith, c.look_into.ensures.reads.faults, faults); rose = λ is. absurd (cc is) }

pub returns-in-Ok-Err-clause-same : goal.returns-in-Ok-Err-clause-same
returns-in-Ok-Err-clause-same g c =
    let first = c.look_into.ensures.reads.same in
    let second = c.tell_mount.ensures.same in
    record { tells = second.tells ∙ first.tells; tells_left = second.tells_left ∙ first.tells_left; names = second.names ∙ first.names; sectors = second.sectors ∙ first.sectors }

-- ---- answered to the last

pub returns-in-Ok-Ok-clause-right : goal.returns-in-Ok-Ok-clause-right
returns-in-Ok-Ok-clause-right g c tells told capacity start mounts = c.look_into.ensures.right tells told capacity start mounts

pub returns-in-Ok-Ok-clause-ends : goal.returns-in-Ok-Ok-clause-ends
returns-in-Ok-Ok-clause-ends g c told _ =
    let old = g.A.Asker.state c.args.asker.now in
    let new = g.A.Asker.state c.look_into.new.asker in
    subst (λ (a : Result (Unit {0}) MountRefusal). OnOk a (Ends old new)) c.in-Ok-Ok.field-0-is (c.in-Ok-Ok.ensures.ends told)

pub returns-in-Ok-Ok-clause-refuses : goal.returns-in-Ok-Ok-clause-refuses
returns-in-Ok-Ok-clause-refuses g c tells none =
    let c0 = content (g.R.SectorDisk.state c.args.rig.now) in
    absurd (none (subst (λ (a : Result (Unit {0}) MountRefusal). OnOk a (IsMountable c0)) c.in-Ok-Ok.field-0-is (c.in-Ok-Ok.ensures.served tells)))

pub returns-in-Ok-Ok-clause-disk : goal.returns-in-Ok-Ok-clause-disk
returns-in-Ok-Ok-clause-disk g c = record { later = c.look_into.ensures.reads.faults; rose = λ is. absurd (cc is) }
