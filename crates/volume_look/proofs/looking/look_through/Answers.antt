use Rattle.std.proofs.Common.{◌≡◌, ◌∙◌, ℕ, List, get_or, ap, refl, sym, subst, arith}
use Rattle.std.specs.Prelude.{Option}
use Rattle.std.proofs.lemmas.Result.{err_from_is_err_and}
use Rattle.btree_edit.specs.Causes.{HasTroubleCause}
use Rattle.sector_disk.specs.Disk.{OnlyReads, content}
use Rattle.sector_disk.proofs.Writing.{reads_both}
use Rattle.jnl_format.specs.Recovery.{replayed}
use Rattle.jnl_replay.specs.Plan.{journal_of}
use Rattle.jnl_replay.specs.Viewing.{shown}
use Rattle.jnl_store.specs.Plan.{form_of, span_of}
use Rattle.hfs_volume.specs.Sound.{IsSound}
use Rattle.hfs_serving.proofs.Attachable.{capacity_one}
use Rattle.hfs_serving.proofs.Peeks.{shown_as}
use Rattle.hfs_serving.proofs.Served.{mounts_one}
use Rattle.volume_base.proofs.Seeing.{cause_on, cause_since}
use Rattle.volume_look.specs.Slots.{AreCopies}
use Rattle.volume_look.specs.declared.slots.Copied.{Copied}
use Rattle.volume_look.proofs.Faults.{first_cause, memory_cause}
use Rattle.volume_look.proofs.Opened.{right_of}
use Rattle.volume_look.proofs.Talks.{right_none}
use Rattle.volume_look.proofs.Whole.{whole_shown}
use Rattle.volume_look.proofs.looking.look_through.Goals as goal

-- the name of the reference that a space holds
abbrev first_of : List ℕ → ℕ
first_of names = get_or names 0 0

-- ---- what is looked at

pub invariant_of-space : goal.invariant_of-space
invariant_of-space g c =
    let s1 = g.D.SectorDisk.state c.new.new.disk in
    let shows = shown c.in_ok-peek.peek s1.sectors (content s1) in
    record { fresh = λ tells. subst (λ (l : List (Option Copied)). AreCopies shows l) (sym c.as_mut_slice.ensures.value) (c.in_ok-slots.ensures shows) }

pub attach-requires-clause-servable : goal.attach-requires-clause-servable
attach-requires-clause-servable g c told =
    let s0 = g.D.SectorDisk.state c.args.disk.now in
    let s1 = g.D.SectorDisk.state c.new.new.disk in
    let reads = c.new.ensures.reads in
    let tells = sym reads.same.tells ∙ told in
    let shows = shown_as c.in_ok-peek.peek s0 s1 (replayed (journal_of c.args.plan.now) (content s0)) reads c.in_ok-peek.ensures.sectors (c.in_ok-peek.ensures.shows tells) in
    record { sound = subst IsSound (sym shows) (c.requires.found tells).sound; whole = whole_shown c.in_ok-peek.peek s1 (g.met.D.SectorDisk.well_formed c.new.new.disk) told }

-- ---- what is heard

pub returns-in_err-peek-clause-right : goal.returns-in_err-peek-clause-right
returns-in_err-peek-clause-right g c tells told most start mounts = right_none most start (g.A.Asker.state c.args.asker.now) (g.A.Asker.state c.args.asker.now) refl

pub returns-in_err-slots-clause-right : goal.returns-in_err-slots-clause-right
returns-in_err-slots-clause-right g c tells told most start mounts = right_none most start (g.A.Asker.state c.args.asker.now) (g.A.Asker.state c.args.asker.now) refl

pub returns-in_err-volume-clause-right : goal.returns-in_err-volume-clause-right
returns-in_err-volume-clause-right g c tells told most start mounts = right_none most start (g.A.Asker.state c.args.asker.now) (g.A.Asker.state c.args.asker.now) refl

pub returns-clause-right : goal.returns-clause-right
returns-clause-right g c tells told most start mounts =
    let s0 = g.D.SectorDisk.state c.args.disk.now in
    let s1 = g.D.SectorDisk.state c.new.new.disk in
    let plan = c.args.plan.now in
    let reads = c.new.ensures.reads in
    let found = c.requires.found tells in
    let one = mounts_one (content s0) plan s0.sectors c.requires.fits found.opened most start mounts in
    let shows = shown_as c.in_ok-peek.peek s0 s1 (replayed (journal_of plan) (content s0)) reads c.in_ok-peek.ensures.sectors (c.in_ok-peek.ensures.shows tells) in
    let there = reads.same.tells ∙ tells in
    let looks = c.attach.ensures.looks in
    let fresh = c.in_ok-volume.ensures.fresh in
    right_of _ most _ start (g.A.Asker.state c.args.asker.now) (g.A.Asker.state c.answer_all-answered.new.asker)
    (fresh.capacity_is ∙ capacity_one (span_of plan) (form_of plan) c.capacity-most.result most c.capacity-most.ensures one.1)
    (looks.content there ∙ shows ∙ sym one.0)
    (c.answer_all-answered.ensures.right (looks.same.tells ∙ there) told)

-- ---- what is done to the disk

pub returns-in_err-volume-clause-reads : goal.returns-in_err-volume-clause-reads
returns-in_err-volume-clause-reads g c =
    let s0 = g.D.SectorDisk.state c.args.disk.now in
    let s1 = g.D.SectorDisk.state c.new.new.disk in
    let disk_is = c.in_err-volume.disk-1-own.given.1 (sym (ap first_of c.attach.ensures.looks.same.names)) in
    subst (λ (d : g.row.D.Denot). OnlyReads s0 (g.D.SectorDisk.state d)) (sym disk_is)
    (reads_both s0 s1 (g.D.SectorDisk.state c.attach.new.space.disk.now) c.new.ensures.reads c.attach.ensures.below.reads)

pub returns-clause-reads : goal.returns-clause-reads
returns-clause-reads g c =
    let s0 = g.D.SectorDisk.state c.args.disk.now in
    let s1 = g.D.SectorDisk.state c.new.new.disk in
    let s2 = g.D.SectorDisk.state c.attach.new.space.disk.now in
    let s3 = g.D.SectorDisk.state c.answer_all-answered.new.space.disk.now in
    let disk_is = c.disk-2-1.given.1 (sym (ap first_of (c.answer_all-answered.ensures.names ∙ c.attach.ensures.looks.same.names))) in
    subst (λ (d : g.row.D.Denot). OnlyReads s0 (g.D.SectorDisk.state d)) (sym disk_is) (reads_both s0 s1 s3 c.new.ensures.reads (reads_both s1 s2 s3 c.attach.ensures.below.reads c.answer_all-answered.ensures.below.reads))

pub returns-in_err-peek-clause-cause : goal.returns-in_err-peek-clause-cause
returns-in_err-peek-clause-cause g c =
    let p = err_from_is_err_and c.from_residual.result c.from_residual.ensures.1 in
    first_cause c.in_err-peek.field-0.0 p.0 (g.D.SectorDisk.state c.args.disk.now).faults (g.D.SectorDisk.state c.new.new.disk).faults c.from_residual.result p.1 p.2 c.new.ensures.reads.faults c.in_err-peek.ensures.cause

pub returns-in_err-slots-clause-cause : goal.returns-in_err-slots-clause-cause
returns-in_err-slots-clause-cause g c =
    let p = err_from_is_err_and c.from_residual-in_err-slots.result c.from_residual-in_err-slots.ensures.1 in
    memory_cause p.0 (g.D.SectorDisk.state c.args.disk.now).faults (g.D.SectorDisk.state c.new.new.disk).faults c.from_residual-in_err-slots.result p.1 p.2 c.new.ensures.reads.faults

pub returns-in_err-volume-clause-cause : goal.returns-in_err-volume-clause-cause
returns-in_err-volume-clause-cause g c =
    let p = err_from_is_err_and c.from_residual-in_err-volume.result c.from_residual-in_err-volume.ensures.1 in
    let s0 = g.D.SectorDisk.state c.args.disk.now in
    let s1 = g.D.SectorDisk.state c.new.new.disk in
    let s2 = g.D.SectorDisk.state c.attach.new.space.disk.now in
    let q = c.from_residual-in_err-volume.result in
    let disk_is = c.in_err-volume.disk-1-own.given.1 (sym (ap first_of c.attach.ensures.looks.same.names)) in
    subst (λ (d : g.row.D.Denot). HasTroubleCause s0.faults (g.D.SectorDisk.state d).faults q) (sym disk_is)
    (cause_on c.in_err-volume.field-0.0 p.0 s0.faults s1.faults s2.faults q p.1 p.2 c.new.ensures.reads.faults c.in_err-volume.ensures.cause)

pub returns-clause-cause : goal.returns-clause-cause
returns-clause-cause g c =
    let s0 = g.D.SectorDisk.state c.args.disk.now in
    let s2 = g.D.SectorDisk.state c.attach.new.space.disk.now in
    let s3 = g.D.SectorDisk.state c.answer_all-answered.new.space.disk.now in
    let disk_is = c.disk-2-1.given.1 (sym (ap first_of (c.answer_all-answered.ensures.names ∙ c.attach.ensures.looks.same.names))) in
    subst (λ (d : g.row.D.Denot). HasTroubleCause s0.faults (g.D.SectorDisk.state d).faults c.answer_all-answered.result) (sym disk_is)
    (cause_since s0.faults s2.faults s3.faults c.answer_all-answered.result (omega (arith, c.new.ensures.reads.faults, c.attach.ensures.cause.later)) c.answer_all-answered.ensures.cause)
