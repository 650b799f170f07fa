use Rattle.std.proofs.Common.{ℕ, sym, ◌∙◌, subst, arith, []}
use Rattle.std.specs.Prelude.{IfSome, OnOk, Option}
use Rattle.sector_disk.specs.Lists.{Content}
use Rattle.hfs_volume.specs.Aside.{IsJournalSector}
use Rattle.volume_base.specs.Keeping.{shrunk_of}
use Rattle.volume_base.specs.Room.{capacity_of}
use Rattle.volume_base.proofs.Seeing.{cause_since, if_so}
use Rattle.volume_space.specs.Awaiting.{AwaitsGrowth}
use Rattle.volume_space.specs.declared.awaiting.TreeWanted.{TreeWanted}
use Rattle.volume_step.specs.Steps.{KeepsJournal}
use Rattle.volume_step.proofs.Done.{holds_kept}
use Rattle.volume_step.proofs.GrownFor.{lacks_behind, reclaims_behind}
use Rattle.volume_step.proofs.Loaded.{step_behind}
use Rattle.volume_step.proofs.Widening.{own_or_free_still, touches_behind, touches_looked, touches_own}
use Rattle.volume_base.specs.Frame.{Serves}
use Rattle.volume_base.specs.Standing.{IsSettled}
use Rattle.volume_base.proofs.FoundEntry.{ok_so}
use Rattle.volume_step.proofs.tidying.tidy.Goals as goal

pub grow_for-requires-clause-settled : goal.grow_for-requires-clause-settled
grow_for-requires-clause-settled g c tells = c.next_growth.ensures.serves.settled tells

pub grow_for-requires-clause-closed : goal.grow_for-requires-clause-closed
grow_for-requires-clause-closed g c told at shut =
    let tells = sym c.next_growth.ensures.looked.reads.looks.same.tells ∙ told in
    subst (λ (k : Content). IsJournalSector k at) (sym (c.next_growth.ensures.looked.reads.looks.content tells)) (c.requires.closed tells at ((c.next_growth.ensures.looked.reads.looks.closed tells at).0 shut))

pub grow_for-requires-clause-awaits : goal.grow_for-requires-clause-awaits
grow_for-requires-clause-awaits g c told =
    let tells = sym c.next_growth.ensures.looked.reads.looks.same.tells ∙ told in
    subst (λ (k : ℕ × Option ℕ × Content). AwaitsGrowth k.0 k.1 k.2 c.in-Some.wanted) {x = (capacity_of c.args.volume.now, shrunk_of c.args.volume.now, (g.P.SectorView.space c.args.space.now).content)} {y = (capacity_of c.next_growth.new.volume, shrunk_of c.next_growth.new.volume, (g.P.SectorView.space c.next_growth.new.space).content)}
    (λ i. (sym c.next_growth.ensures.looked.reads.keeps.capacity i, sym c.next_growth.ensures.looked.reads.keeps.shrunk i, sym (c.next_growth.ensures.looked.reads.looks.content tells) i))
    (subst (λ (o : Option TreeWanted). IfSome o (AwaitsGrowth (capacity_of c.args.volume.now) (shrunk_of c.args.volume.now) (g.P.SectorView.space c.args.space.now).content)) c.in-Some.is (c.in_ok-found.ensures.awaits tells))

pub returns-in-Some-clause-reclaims : goal.returns-in-Some-clause-reclaims
returns-in-Some-clause-reclaims g c tells =
    if_so _ _ c.grow_for.result
    (λ came was. reclaims_behind (g.P.SectorView.space c.args.space.now).content (g.P.SectorView.space c.next_growth.new.space).content (g.P.SectorView.space c.grow_for.new.space).content (c.next_growth.ensures.looked.reads.looks.content tells) (capacity_of c.args.volume.now) (capacity_of c.next_growth.new.volume) c.next_growth.ensures.looked.reads.keeps.capacity
    (shrunk_of c.args.volume.now) (shrunk_of c.next_growth.new.volume) c.next_growth.ensures.looked.reads.keeps.shrunk came was)
    (c.grow_for.ensures.reclaims (c.next_growth.ensures.looked.reads.looks.same.tells ∙ tells))

pub returns-in-Some-clause-place : goal.returns-in-Some-clause-place
returns-in-Some-clause-place g c tells = subst (λ (k : Content). OnOk c.grow_for.result (KeepsJournal k (g.P.SectorView.space c.grow_for.new.space).content)) (c.next_growth.ensures.looked.reads.looks.content tells) (c.grow_for.ensures.place (c.next_growth.ensures.looked.reads.looks.same.tells ∙ tells))

pub returns-in-Some-clause-holds : goal.returns-in-Some-clause-holds
returns-in-Some-clause-holds g c committed was = c.grow_for.ensures.holds committed (holds_kept committed c.args.volume.now c.next_growth.new.volume c.next_growth.ensures.looked.reads.keeps.map was)

pub returns-in-Some-clause-capacity : goal.returns-in-Some-clause-capacity
returns-in-Some-clause-capacity g c = c.grow_for.ensures.capacity ∙ c.next_growth.ensures.looked.reads.keeps.capacity

pub returns-in-Some-clause-shrunk : goal.returns-in-Some-clause-shrunk
returns-in-Some-clause-shrunk g c = c.grow_for.ensures.shrunk ∙ c.next_growth.ensures.looked.reads.keeps.shrunk

pub returns-in-Some-clause-touches : goal.returns-in-Some-clause-touches
returns-in-Some-clause-touches g c committed =
    touches_behind committed c.args.volume.now c.next_growth.new.volume c.grow_for.new.volume (g.P.SectorView.space c.args.space.now) (g.P.SectorView.space c.next_growth.new.space) (g.P.SectorView.space c.grow_for.new.space)
    (own_or_free_still c.args.volume.now c.next_growth.new.volume (g.P.SectorView.space c.args.space.now) (g.P.SectorView.space c.next_growth.new.space) c.next_growth.ensures.looked.reads) c.next_growth.ensures.looked.reads.looks
    (c.grow_for.ensures.touches committed)

pub returns-in-Some-clause-below : goal.returns-in-Some-clause-below
returns-in-Some-clause-below g c = g.met.P.SectorView.follows_trans c.args.space.now c.next_growth.new.space c.grow_for.new.space c.next_growth.ensures.looked.edits.ran.below c.grow_for.ensures.below

pub returns-in-Some-clause-cause : goal.returns-in-Some-clause-cause
returns-in-Some-clause-cause g c = cause_since (g.P.SectorView.space c.args.space.now).faults (g.P.SectorView.space c.next_growth.new.space).faults (g.P.SectorView.space c.grow_for.new.space).faults c.grow_for.result c.next_growth.ensures.looked.reads.looks.faults c.grow_for.ensures.cause

pub returns-clause-reclaims : goal.returns-clause-reclaims
returns-clause-reclaims g c tells =
    if_so _ _ c.tidy_now.result
    (λ came was. reclaims_behind (g.P.SectorView.space c.args.space.now).content (g.P.SectorView.space c.next_growth.new.space).content (g.P.SectorView.space c.tidy_now.new.space).content (c.next_growth.ensures.looked.reads.looks.content tells) (capacity_of c.args.volume.now) (capacity_of c.next_growth.new.volume) c.next_growth.ensures.looked.reads.keeps.capacity
    (shrunk_of c.args.volume.now) (shrunk_of c.next_growth.new.volume) c.next_growth.ensures.looked.reads.keeps.shrunk came was)
    (c.tidy_now.ensures.reclaims (c.next_growth.ensures.looked.reads.looks.same.tells ∙ tells))

pub returns-clause-place : goal.returns-clause-place
returns-clause-place g c tells = subst (λ (k : Content). OnOk c.tidy_now.result (KeepsJournal k (g.P.SectorView.space c.tidy_now.new.space).content)) (c.next_growth.ensures.looked.reads.looks.content tells) (c.tidy_now.ensures.place (c.next_growth.ensures.looked.reads.looks.same.tells ∙ tells))

pub returns-clause-holds : goal.returns-clause-holds
returns-clause-holds g c committed was = c.tidy_now.ensures.frees.used.holds committed (holds_kept committed c.args.volume.now c.next_growth.new.volume c.next_growth.ensures.looked.reads.keeps.map was)

pub returns-clause-capacity : goal.returns-clause-capacity
returns-clause-capacity g c = c.tidy_now.ensures.frees.used.capacity ∙ c.next_growth.ensures.looked.reads.keeps.capacity

pub returns-clause-shrunk : goal.returns-clause-shrunk
returns-clause-shrunk g c = c.tidy_now.ensures.frees.used.shrunk ∙ c.next_growth.ensures.looked.reads.keeps.shrunk

pub returns-clause-touches : goal.returns-clause-touches
returns-clause-touches g c committed =
    touches_behind committed c.args.volume.now c.next_growth.new.volume c.tidy_now.new.volume (g.P.SectorView.space c.args.space.now) (g.P.SectorView.space c.next_growth.new.space) (g.P.SectorView.space c.tidy_now.new.space)
    (own_or_free_still c.args.volume.now c.next_growth.new.volume (g.P.SectorView.space c.args.space.now) (g.P.SectorView.space c.next_growth.new.space) c.next_growth.ensures.looked.reads) c.next_growth.ensures.looked.reads.looks
    (touches_own committed c.next_growth.new.volume c.tidy_now.new.volume (g.P.SectorView.space c.next_growth.new.space) (g.P.SectorView.space c.tidy_now.new.space) (c.tidy_now.ensures.frees.ran.touches committed))

pub returns-clause-below : goal.returns-clause-below
returns-clause-below g c = g.met.P.SectorView.follows_trans c.args.space.now c.next_growth.new.space c.tidy_now.new.space c.next_growth.ensures.looked.edits.ran.below c.tidy_now.ensures.frees.ran.below

pub returns-clause-cause : goal.returns-clause-cause
returns-clause-cause g c = cause_since (g.P.SectorView.space c.args.space.now).faults (g.P.SectorView.space c.next_growth.new.space).faults (g.P.SectorView.space c.tidy_now.new.space).faults c.tidy_now.result c.next_growth.ensures.looked.reads.looks.faults c.tidy_now.ensures.frees.ran.cause

pub returns-in_err-found-clause-touches : goal.returns-in_err-found-clause-touches
returns-in_err-found-clause-touches g c committed = touches_looked committed c.args.volume.now c.next_growth.new.volume (g.P.SectorView.space c.args.space.now) (g.P.SectorView.space c.next_growth.new.space) c.next_growth.ensures.looked.reads.looks

pub returns-in_err-found-clause-holds : goal.returns-in_err-found-clause-holds
returns-in_err-found-clause-holds g c committed was = holds_kept committed c.args.volume.now c.next_growth.new.volume c.next_growth.ensures.looked.reads.keeps.map was

pub returns-in-Some-clause-short : goal.returns-in-Some-clause-short
returns-in-Some-clause-short g c tells =
    if_so _ _ c.grow_for.result (λ came was wants. lacks_behind c.args.volume.now c.next_growth.new.volume (g.P.SectorView.space c.args.space.now) (g.P.SectorView.space c.next_growth.new.space) c.next_growth.ensures.looked.reads (c.next_growth.ensures.looked.reads.looks.content tells) (was wants))
    (c.grow_for.ensures.short (c.next_growth.ensures.looked.reads.looks.same.tells ∙ tells))

pub returns-clause-short : goal.returns-clause-short
returns-clause-short g c tells =
    if_so _ _ c.tidy_now.result (λ came was wants. lacks_behind c.args.volume.now c.next_growth.new.volume (g.P.SectorView.space c.args.space.now) (g.P.SectorView.space c.next_growth.new.space) c.next_growth.ensures.looked.reads (c.next_growth.ensures.looked.reads.looks.content tells) (was wants))
    (c.tidy_now.ensures.short (c.next_growth.ensures.looked.reads.looks.same.tells ∙ tells))

pub returns-clause-loads : goal.returns-clause-loads
returns-clause-loads g c tells =
    step_behind (g.P.SectorView.space c.args.space.now).content (g.P.SectorView.space c.next_growth.new.space).content (c.next_growth.ensures.looked.reads.looks.content tells) (capacity_of c.args.volume.now) (capacity_of c.next_growth.new.volume) c.next_growth.ensures.looked.reads.keeps.capacity (shrunk_of c.args.volume.now) (shrunk_of c.next_growth.new.volume) c.next_growth.ensures.looked.reads.keeps.shrunk
    (g.P.SectorView.space c.args.space.now).spare (g.P.SectorView.space c.next_growth.new.space).spare c.next_growth.ensures.looked.reads.looks.spare (g.P.SectorView.space c.tidy_now.new.space).spare (c.tidy_now.ensures.loads (c.next_growth.ensures.looked.reads.looks.same.tells ∙ tells))

pub returns-in-Some-clause-loads : goal.returns-in-Some-clause-loads
returns-in-Some-clause-loads g c tells =
    step_behind (g.P.SectorView.space c.args.space.now).content (g.P.SectorView.space c.next_growth.new.space).content (c.next_growth.ensures.looked.reads.looks.content tells) (capacity_of c.args.volume.now) (capacity_of c.next_growth.new.volume) c.next_growth.ensures.looked.reads.keeps.capacity (shrunk_of c.args.volume.now) (shrunk_of c.next_growth.new.volume) c.next_growth.ensures.looked.reads.keeps.shrunk
    (g.P.SectorView.space c.args.space.now).spare (g.P.SectorView.space c.next_growth.new.space).spare c.next_growth.ensures.looked.reads.looks.spare (g.P.SectorView.space c.grow_for.new.space).spare (c.grow_for.ensures.loads (c.next_growth.ensures.looked.reads.looks.same.tells ∙ tells))

pub returns-in_err-found-clause-loads : goal.returns-in_err-found-clause-loads
returns-in_err-found-clause-loads g c tells step load grow next is = omega (arith, c.next_growth.ensures.looked.reads.looks.spare)

pub returns-clause-settled : goal.returns-clause-settled
returns-clause-settled g c tells =
    ok_so (Serves c.tidy_now.new.volume (g.P.SectorView.space c.tidy_now.new.space)) (IsSettled c.tidy_now.new.volume (g.P.SectorView.space c.tidy_now.new.space).content) c.tidy_now.result c.tidy_now.ensures.serves
    (λ s. s.settled ((c.tidy_now.ensures.frees.ran.touches []).same.tells ∙ (c.next_growth.ensures.looked.reads.looks.same.tells ∙ tells)))
