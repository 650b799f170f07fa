use Rattle.std.proofs.Common.{◌≡◌, ◌∙◌, refl, sym, subst, arith}
use Rattle.std.specs.Prelude.{IfOk, Result}
use Rattle.std.proofs.lemmas.Result.{err_from_is_err_and}
use Rattle.sector_disk.specs.Disk.{content}
use Rattle.sector_disk.proofs.Writing.{reads_both}
use Rattle.jnl_format.specs.Recovery.{Content, replayed}
use Rattle.jnl_replay.specs.Plan.{FitsPlan, journal_of}
use Rattle.jnl_replay.specs.declared.plan.Plan.{Plan}
use Rattle.hfs_volume.specs.Mount.{Mounts}
use Rattle.hfs_serving.specs.Checking.{IsFound}
use Rattle.hfs_serving.specs.declared.checking.MountRefusal.{MountRefusal}
use Rattle.hfs_serving.proofs.Served.{found_mounts, reads_content}
use Rattle.volume_base.proofs.Seeing.{cause_on}
use Rattle.volume_look.proofs.Faults.{one_fault}
use Rattle.volume_look.proofs.Talks.{right_none}
use Rattle.volume_look.proofs.looking.look_into.Goals as goal

pub returns-in_err-plan-clause-right : goal.returns-in_err-plan-clause-right
returns-in_err-plan-clause-right g c tells told most start mounts = right_none most start (g.A.Asker.state c.args.asker.now) (g.A.Asker.state c.args.asker.now) refl

pub returns-in-Err-clause-right : goal.returns-in-Err-clause-right
returns-in-Err-clause-right g c tells told most start mounts = right_none most start (g.A.Asker.state c.args.asker.now) (g.A.Asker.state c.args.asker.now) refl

pub returns-in_err-look_through-in-Ok-clause-right : goal.returns-in_err-look_through-in-Ok-clause-right
returns-in_err-look_through-in-Ok-clause-right g c tells told most start mounts =
    let s0 = g.D.SectorDisk.state c.args.disk.now in
    let s1 = g.D.SectorDisk.state c.find_image.new.disk in
    let reads = c.find_image.ensures.reads in
    c.look_through.ensures.right (reads.same.tells ∙ tells) told most start (subst (λ (x : Content). Mounts x most start) (sym (reads_content s0 s1 reads)) mounts)

pub returns-in_ok-look_through-in-Ok-clause-right : goal.returns-in_ok-look_through-in-Ok-clause-right
returns-in_ok-look_through-in-Ok-clause-right g c tells told most start mounts =
    let s0 = g.D.SectorDisk.state c.args.disk.now in
    let s1 = g.D.SectorDisk.state c.find_image.new.disk in
    let reads = c.find_image.ensures.reads in
    c.look_through.ensures.right (reads.same.tells ∙ tells) told most start (subst (λ (x : Content). Mounts x most start) (sym (reads_content s0 s1 reads)) mounts)

pub returns-in_ok-look_through-in-Ok-clause-served : goal.returns-in_ok-look_through-in-Ok-clause-served
returns-in_ok-look_through-in-Ok-clause-served g c tells =
    let s0 = g.D.SectorDisk.state c.args.disk.now in
    let image = content s0 in
    let plan = c.in-Ok.plan in
    let found = subst (λ (r : Result Plan MountRefusal). IfOk r (IsFound image)) c.in-Ok.is (c.in_ok-plan.ensures.found tells) in
    let fits = subst (λ (r : Result Plan MountRefusal). IfOk r (FitsPlan s0.sectors)) c.in-Ok.is c.in_ok-plan.ensures.fits in
    (found.opened.capacity, replayed (journal_of plan) image, found_mounts image plan s0.sectors fits found.opened found.sound)

pub returns-in_err-look_through-in-Ok-clause-reads : goal.returns-in_err-look_through-in-Ok-clause-reads
returns-in_err-look_through-in-Ok-clause-reads g c =
    reads_both (g.D.SectorDisk.state c.args.disk.now) (g.D.SectorDisk.state c.find_image.new.disk) (g.D.SectorDisk.state c.look_through.new.disk) c.find_image.ensures.reads c.look_through.ensures.reads

pub returns-in_ok-look_through-in-Ok-clause-reads : goal.returns-in_ok-look_through-in-Ok-clause-reads
returns-in_ok-look_through-in-Ok-clause-reads g c =
    reads_both (g.D.SectorDisk.state c.args.disk.now) (g.D.SectorDisk.state c.find_image.new.disk) (g.D.SectorDisk.state c.look_through.new.disk) c.find_image.ensures.reads c.look_through.ensures.reads

pub returns-in_err-look_through-in-Ok-clause-cause : goal.returns-in_err-look_through-in-Ok-clause-cause
returns-in_err-look_through-in-Ok-clause-cause g c =
    let p = err_from_is_err_and c.from_residual-in_err-look_through-in-Ok.result c.from_residual-in_err-look_through-in-Ok.ensures.1 in
    let s0 = g.D.SectorDisk.state c.args.disk.now in
    let s1 = g.D.SectorDisk.state c.find_image.new.disk in
    let s2 = g.D.SectorDisk.state c.look_through.new.disk in
    let q = c.from_residual-in_err-look_through-in-Ok.result in
    one_fault s0.faults s2.faults q (cause_on c.in_err-look_through-in-Ok.field-0.0 p.0 s0.faults s1.faults s2.faults q p.1 p.2 c.find_image.ensures.reads.faults c.in_err-look_through-in-Ok.ensures.cause)

pub returns-in_ok-look_through-in-Ok-clause-cause : goal.returns-in_ok-look_through-in-Ok-clause-cause
returns-in_ok-look_through-in-Ok-clause-cause g c = record { later = omega (arith, c.find_image.ensures.reads.faults, c.look_through.ensures.cause.later); rose = λ is. absurd (cc is) }
