use Rattle.std.proofs.Common.{◌≡◌, ℕ, false, [], inl, inr, refl, sym, ◌∙◌, subst}
use Rattle.std.specs.Prelude.{IfOk, None, OnOk, Option}
use Rattle.sector_disk.specs.Lists.{Content}
use Rattle.hfs_volume.specs.Aside.{IsJournalSector}
use Rattle.volume_weights.specs.DataWeighing.{WaitsForCut}
use Rattle.hfs_volume.specs.Content.{volume_of}
use Rattle.hfs_volume.specs.TreeOf.{tree_of}
use Rattle.hfs_volume.specs.Weight.{data_of, needs_cut}
use Rattle.volume_base.proofs.Seeing.{if_so}
use Rattle.volume_base.specs.Fitting.{takable_of}
use Rattle.volume_base.specs.Room.{capacity_of}
use Rattle.volume_base.specs.Keeping.{shrunk_of}
use Rattle.volume_space.proofs.Sounding.{sound_here}
use Rattle.volume_step.specs.Steps.{Affords, GrowsTheFirst, IsCutFirst, IsDirect, IsJudged, IsTaken, IsTakenAlike, KeepsJournal, ShrinksAs, StepsTo, WaitsForGrowth, FillsMore, HasFewLeft, IsDoneOk, KeepsGrowth}
use Rattle.volume_step.specs.declared.judging.Verdict.{Verdict}
use Rattle.volume_step.specs.declared.outcome.Outcome.{Outcome}
use Rattle.volume_step.proofs.Done.{refused_steps, same_place}
use Rattle.volume_step.proofs.Widening.{refused_shrinks}
use Rattle.volume_step.proofs.GrowthThere.{growth_there}
use Rattle.volume_step.proofs.Ready.{now_still, refused_now, wants_now}
use Rattle.volume_step.proofs.ReadyData.{puts_still}
use Rattle.volume_step.proofs.AnewReady.{fits_alike, growth_within, wants_so}
use Rattle.volume_step.proofs.Loaded.{cut_no_growth, fits_cut, lacks_still, uncut, within_behind, within_reads}
use Rattle.volume_step.proofs.Unfilled.{filled_none, filled_still}
use Rattle.volume_base.specs.declared.volume.Filling.{Filling}
use Rattle.volume_step.proofs.FilledFirst.{answered_again, commit_again, cut_further, growth_further, hand_dropped, hand_none}
use Rattle.volume_step.proofs.Performed.{performs_drop, performs_err, performs_later, performs_looked, performs_looked_ok, performs_of, performs_own}
use Rattle.volume_step.proofs.stepping.change.Goals as goal

pub perform-requires-clause-closed : goal.perform-requires-clause-closed
perform-requires-clause-closed g c told at shut =
    let tells = sym c.judge.ensures.looked.reads.looks.same.tells ∙ told in
    subst (λ (k : Content). IsJournalSector k at) (sym (c.judge.ensures.looked.reads.looks.content tells)) (c.requires.closed tells at ((c.judge.ensures.looked.reads.looks.closed tells at).0 shut))

pub perform-requires-clause-affords : goal.perform-requires-clause-affords
perform-requires-clause-affords g c told =
    let tells = sym c.judge.ensures.looked.reads.looks.same.tells ∙ told in
    subst (λ (k : ℕ × Content). Affords k.0 c.args.command.now k.1) {x = ((capacity_of c.args.volume.now), (g.P.SectorView.space c.args.space.now).content)} {y = (capacity_of c.judge.new.volume, (g.P.SectorView.space c.judge.new.space).content)} (λ i. (sym c.judge.ensures.looked.reads.keeps.capacity i, sym (c.judge.ensures.looked.reads.looks.content (sym c.judge.ensures.looked.reads.looks.same.tells ∙ told)) i))
    (subst (λ (v : Verdict). IsJudged v (capacity_of c.args.volume.now) c.args.command.now (g.P.SectorView.space c.args.space.now).content) c.in-Fits.is (c.in_ok-why.ensures.judged (sym c.judge.ensures.looked.reads.looks.same.tells ∙ told)))

pub returns-in-Refused-clause-answered : goal.returns-in-Refused-clause-answered
returns-in-Refused-clause-answered g c tells =
    refused_steps (capacity_of c.args.volume.now) c.args.number c.args.command.now (g.P.SectorView.space c.args.space.now).content (g.P.SectorView.space c.judge.new.space).content (c.judge.ensures.looked.reads.looks.content tells) (sound_here c.args.volume.now (g.P.SectorView.space c.args.space.now) (c.requires.serves.stands.stands tells) (c.requires.serves.settled tells)) c.requires.changes c.in-Refused.why
    (subst (λ (v : Verdict). IsJudged v (capacity_of c.args.volume.now) c.args.command.now (g.P.SectorView.space c.args.space.now).content) c.in-Refused.is (c.in_ok-why.ensures.judged tells)) c.refusal.result c.refusal.ensures

pub returns-in-Fits-clause-answered : goal.returns-in-Fits-clause-answered
returns-in-Fits-clause-answered g c tells =
    subst (λ (k : ℕ × Content). IfOk c.perform.result (λ (o : Outcome). StepsTo o k.0 c.args.number c.args.command.now k.1 (g.P.SectorView.space c.perform.new.space).content)) {x = (capacity_of c.judge.new.volume, (g.P.SectorView.space c.judge.new.space).content)} {y = ((capacity_of c.args.volume.now), (g.P.SectorView.space c.args.space.now).content)} (λ i. (c.judge.ensures.looked.reads.keeps.capacity i, c.judge.ensures.looked.reads.looks.content tells i)) (c.perform.ensures.answered (c.judge.ensures.looked.reads.looks.same.tells ∙ tells))

pub returns-in-Fits-clause-place : goal.returns-in-Fits-clause-place
returns-in-Fits-clause-place g c tells = subst (λ (k : Content). OnOk c.perform.result (KeepsJournal k (g.P.SectorView.space c.perform.new.space).content)) (c.judge.ensures.looked.reads.looks.content tells) (c.perform.ensures.place (c.judge.ensures.looked.reads.looks.same.tells ∙ tells))

pub returns-in-Fits-clause-shrunk : goal.returns-in-Fits-clause-shrunk
returns-in-Fits-clause-shrunk g c tells =
    subst (λ (k : Option ℕ × Content). IfOk c.perform.result (λ (o : Outcome). ShrinksAs o c.args.command.now k.1 k.0 (shrunk_of c.perform.new.volume))) {x = (shrunk_of c.judge.new.volume, (g.P.SectorView.space c.judge.new.space).content)} {y = (shrunk_of c.args.volume.now, (g.P.SectorView.space c.args.space.now).content)}
    (λ i. (c.judge.ensures.looked.reads.keeps.shrunk i, c.judge.ensures.looked.reads.looks.content tells i)) (c.perform.ensures.shrunk (c.judge.ensures.looked.reads.looks.same.tells ∙ tells))

pub returns-in-Refused-clause-shrunk : goal.returns-in-Refused-clause-shrunk
returns-in-Refused-clause-shrunk g c tells = refused_shrinks _ _ _ _ _ c.refusal.result c.refusal.ensures c.judge.ensures.looked.reads.keeps.shrunk

pub returns-in-Refused-clause-place : goal.returns-in-Refused-clause-place
returns-in-Refused-clause-place g c tells = same_place (g.P.SectorView.space c.args.space.now).content (g.P.SectorView.space c.judge.new.space).content (c.judge.ensures.looked.reads.looks.content tells)

pub returns-in-CommitFirst-clause-place : goal.returns-in-CommitFirst-clause-place
returns-in-CommitFirst-clause-place g c tells = same_place (g.P.SectorView.space c.args.space.now).content (g.P.SectorView.space c.judge.new.space).content (c.judge.ensures.looked.reads.looks.content tells)

pub grow_first-requires-clause-closed : goal.grow_first-requires-clause-closed
grow_first-requires-clause-closed g c told at shut =
    let tells = sym c.judge.ensures.looked.reads.looks.same.tells ∙ told in
    subst (λ (k : Content). IsJournalSector k at) (sym (c.judge.ensures.looked.reads.looks.content tells)) (c.requires.closed tells at ((c.judge.ensures.looked.reads.looks.closed tells at).0 shut))

pub grow_first-requires-clause-waits : goal.grow_first-requires-clause-waits
grow_first-requires-clause-waits g c told =
    let tells = sym c.judge.ensures.looked.reads.looks.same.tells ∙ told in
    subst (λ (k : ℕ × Content). WaitsForGrowth c.in-Grows.tree c.in-Grows.more k.0 c.args.command.now k.1) {x = ((capacity_of c.args.volume.now), (g.P.SectorView.space c.args.space.now).content)} {y = (capacity_of c.judge.new.volume, (g.P.SectorView.space c.judge.new.space).content)} (λ i. (sym c.judge.ensures.looked.reads.keeps.capacity i, sym (c.judge.ensures.looked.reads.looks.content (sym c.judge.ensures.looked.reads.looks.same.tells ∙ told)) i))
    (subst (λ (v : Verdict). IsJudged v (capacity_of c.args.volume.now) c.args.command.now (g.P.SectorView.space c.args.space.now).content) c.in-Grows.is (c.in_ok-why.ensures.judged tells))

pub returns-in-Grows-clause-answered : goal.returns-in-Grows-clause-answered
returns-in-Grows-clause-answered g c tells =
    subst (λ (k : ℕ × Content). IfOk c.grow_first.result (λ (o : Outcome). StepsTo o k.0 c.args.number c.args.command.now k.1 (g.P.SectorView.space c.grow_first.new.space).content)) {x = (capacity_of c.judge.new.volume, (g.P.SectorView.space c.judge.new.space).content)} {y = ((capacity_of c.args.volume.now), (g.P.SectorView.space c.args.space.now).content)} (λ i. (c.judge.ensures.looked.reads.keeps.capacity i, c.judge.ensures.looked.reads.looks.content tells i)) (c.grow_first.ensures.answered (c.judge.ensures.looked.reads.looks.same.tells ∙ tells))

pub returns-in-Grows-clause-place : goal.returns-in-Grows-clause-place
returns-in-Grows-clause-place g c tells = subst (λ (k : Content). OnOk c.grow_first.result (KeepsJournal k (g.P.SectorView.space c.grow_first.new.space).content)) (c.judge.ensures.looked.reads.looks.content tells) (c.grow_first.ensures.place (c.judge.ensures.looked.reads.looks.same.tells ∙ tells))

pub returns-in-Grows-clause-shrunk : goal.returns-in-Grows-clause-shrunk
returns-in-Grows-clause-shrunk g c tells =
    subst (λ (k : Option ℕ × Content). IfOk c.grow_first.result (λ (o : Outcome). ShrinksAs o c.args.command.now k.1 k.0 (shrunk_of c.grow_first.new.volume))) {x = (shrunk_of c.judge.new.volume, (g.P.SectorView.space c.judge.new.space).content)} {y = (shrunk_of c.args.volume.now, (g.P.SectorView.space c.args.space.now).content)}
    (λ i. (c.judge.ensures.looked.reads.keeps.shrunk i, c.judge.ensures.looked.reads.looks.content tells i)) (c.grow_first.ensures.shrunk (c.judge.ensures.looked.reads.looks.same.tells ∙ tells))

-- ---- what the space's numbers are

pub cut_first-requires-clause-waits : goal.cut_first-requires-clause-waits
cut_first-requires-clause-waits g c told =
    let tells = sym c.judge.ensures.looked.reads.looks.same.tells ∙ told in
    subst (λ (k : Content). WaitsForCut k c.args.command.now) (sym (c.judge.ensures.looked.reads.looks.content tells))
    (subst (λ (v : Verdict). IsJudged v (capacity_of c.args.volume.now) c.args.command.now (g.P.SectorView.space c.args.space.now).content) c.in-CutFirst.is (c.in_ok-why.ensures.judged tells))

pub returns-in-CutFirst-clause-answered : goal.returns-in-CutFirst-clause-answered
returns-in-CutFirst-clause-answered g c tells =
    subst (λ (k : ℕ × Content). IfOk c.cut_first.result (λ (o : Outcome). StepsTo o k.0 c.args.number c.args.command.now k.1 (g.P.SectorView.space c.cut_first.new.space).content)) {x = (capacity_of c.judge.new.volume, (g.P.SectorView.space c.judge.new.space).content)} {y = ((capacity_of c.args.volume.now), (g.P.SectorView.space c.args.space.now).content)} (λ i. (c.judge.ensures.looked.reads.keeps.capacity i, c.judge.ensures.looked.reads.looks.content tells i)) (c.cut_first.ensures.answered (c.judge.ensures.looked.reads.looks.same.tells ∙ tells))

pub returns-in-CutFirst-clause-place : goal.returns-in-CutFirst-clause-place
returns-in-CutFirst-clause-place g c tells = subst (λ (k : Content). OnOk c.cut_first.result (KeepsJournal k (g.P.SectorView.space c.cut_first.new.space).content)) (c.judge.ensures.looked.reads.looks.content tells) (c.cut_first.ensures.place (c.judge.ensures.looked.reads.looks.same.tells ∙ tells))

pub returns-in-CutFirst-clause-shrunk : goal.returns-in-CutFirst-clause-shrunk
returns-in-CutFirst-clause-shrunk g c tells =
    subst (λ (k : Option ℕ × Content). IfOk c.cut_first.result (λ (o : Outcome). ShrinksAs o c.args.command.now k.1 k.0 (shrunk_of c.cut_first.new.volume))) {x = (shrunk_of c.judge.new.volume, (g.P.SectorView.space c.judge.new.space).content)} {y = (shrunk_of c.args.volume.now, (g.P.SectorView.space c.args.space.now).content)}
    (λ i. (c.judge.ensures.looked.reads.keeps.shrunk i, c.judge.ensures.looked.reads.looks.content tells i)) (c.cut_first.ensures.shrunk (c.judge.ensures.looked.reads.looks.same.tells ∙ tells))

pub returns-in-CommitFirst-clause-ready : goal.returns-in-CommitFirst-clause-ready
returns-in-CommitFirst-clause-ready g c tells ready = absurd (subst (λ (v : Verdict). IsTaken v ready.now.grow) c.in-CommitFirst.is (c.in_ok-why.ensures.taken tells ready))

pub returns-in-CutFirst-clause-ready : goal.returns-in-CutFirst-clause-ready
returns-in-CutFirst-clause-ready g c tells ready = absurd (subst (λ (v : Verdict). IsTaken v ready.now.grow) c.in-CutFirst.is (c.in_ok-why.ensures.taken tells ready))

pub returns-in-Grows-clause-ready : goal.returns-in-Grows-clause-ready
returns-in-Grows-clause-ready g c tells ready =
    let now = ready.now in
    let first = subst (λ (v : Verdict). IsTaken v now.grow) c.in-Grows.is (c.in_ok-why.ensures.taken tells ready) in
    let waits : WaitsForGrowth c.in-Grows.tree c.in-Grows.more (capacity_of c.args.volume.now) c.args.command.now (g.P.SectorView.space c.args.space.now).content =
    subst (λ (v : Verdict). IsJudged v (capacity_of c.args.volume.now) c.args.command.now (g.P.SectorView.space c.args.space.now).content) c.in-Grows.is (c.in_ok-why.ensures.judged tells) in
    let there = growth_there c.args.volume.now (g.P.SectorView.space c.args.space.now).content (c.requires.serves.settled tells) c.args.command.now c.requires.changes now.no_data waits.no_refusal (capacity_of c.args.volume.now) (takable_of c.args.volume.now)
    now.load now.grow now.costs c.in-Grows.tree c.in-Grows.more first.0 first.1 in
    c.grow_first.ensures.ready (c.judge.ensures.looked.reads.looks.same.tells ∙ tells)
    (wants_now c.args.command.now c.args.volume.now c.judge.new.volume (g.P.SectorView.space c.args.space.now) (g.P.SectorView.space c.judge.new.space) c.judge.ensures.looked.reads tells c.requires.changes now c.in-Grows.tree c.in-Grows.more first.0 first.1 there)

pub returns-in-Fits-clause-ready : goal.returns-in-Fits-clause-ready
returns-in-Fits-clause-ready g c tells ready =
    let now = ready.now in
    let still = now_still c.args.command.now c.args.volume.now c.judge.new.volume (g.P.SectorView.space c.args.space.now) (g.P.SectorView.space c.judge.new.space) c.judge.ensures.looked.reads tells now in
    c.perform.ensures.ready (c.judge.ensures.looked.reads.looks.same.tells ∙ tells) c.requires.changes still.0 (still.1 ∙ subst (λ (v : Verdict). IsTaken v now.grow) c.in-Fits.is (c.in_ok-why.ensures.taken tells ready))

pub returns-in-CommitFirst-clause-puts : goal.returns-in-CommitFirst-clause-puts
returns-in-CommitFirst-clause-puts g c tells puts = absurd (subst IsDirect c.in-CommitFirst.is (c.in_ok-why.ensures.puts tells puts))

pub returns-in-CutFirst-clause-puts : goal.returns-in-CutFirst-clause-puts
returns-in-CutFirst-clause-puts g c tells puts = absurd (subst IsDirect c.in-CutFirst.is (c.in_ok-why.ensures.puts tells puts))

pub returns-in-Grows-clause-puts : goal.returns-in-Grows-clause-puts
returns-in-Grows-clause-puts g c tells puts = absurd (subst IsDirect c.in-Grows.is (c.in_ok-why.ensures.puts tells puts))

pub returns-in-Fits-clause-puts : goal.returns-in-Fits-clause-puts
returns-in-Fits-clause-puts g c tells puts =
    c.perform.ensures.puts (c.judge.ensures.looked.reads.looks.same.tells ∙ tells) (puts_still c.args.command.now c.args.volume.now c.judge.new.volume (g.P.SectorView.space c.args.space.now) (g.P.SectorView.space c.judge.new.space) c.judge.ensures.looked.reads tells puts)

-- ---- what costs the same of all free blocks

pub returns-in-CommitFirst-clause-alike : goal.returns-in-CommitFirst-clause-alike
returns-in-CommitFirst-clause-alike g c tells it = absurd (subst (λ (v : Verdict). IsTakenAlike v it.grow) c.in-CommitFirst.is (c.in_ok-why.ensures.alike tells it))

pub returns-in-CutFirst-clause-alike : goal.returns-in-CutFirst-clause-alike
returns-in-CutFirst-clause-alike g c tells it =
    let waits : WaitsForCut (g.P.SectorView.space c.args.space.now).content c.args.command.now = (subst (λ (v : Verdict). IsJudged v (capacity_of c.args.volume.now) c.args.command.now (g.P.SectorView.space c.args.space.now).content) c.in-CutFirst.is (c.in_ok-why.ensures.judged tells)) in
    if_so _ _ c.cut_first.result (λ came short same. fits_cut c.args.command.now c.args.volume.now (g.P.SectorView.space c.args.space.now) c.requires.changes waits.1 it (lacks_still c.args.volume.now c.judge.new.volume (g.P.SectorView.space c.args.space.now) (g.P.SectorView.space c.judge.new.space) c.judge.ensures.looked.reads tells (short same))) (c.cut_first.ensures.short (c.judge.ensures.looked.reads.looks.same.tells ∙ tells))

pub returns-in-Grows-clause-alike : goal.returns-in-Grows-clause-alike
returns-in-Grows-clause-alike g c tells it =
    let first = subst (λ (v : Verdict). IsTakenAlike v it.grow) c.in-Grows.is (c.in_ok-why.ensures.alike tells it) in
    let waits : WaitsForGrowth c.in-Grows.tree c.in-Grows.more (capacity_of c.args.volume.now) c.args.command.now (g.P.SectorView.space c.args.space.now).content =
    subst (λ (v : Verdict). IsJudged v (capacity_of c.args.volume.now) c.args.command.now (g.P.SectorView.space c.args.space.now).content) c.in-Grows.is (c.in_ok-why.ensures.judged tells) in
    let wants = wants_so c.args.command.now c.args.volume.now c.judge.new.volume (g.P.SectorView.space c.args.space.now) (g.P.SectorView.space c.judge.new.space) (c.requires.serves.settled tells) c.judge.ensures.looked.reads tells c.requires.changes
    (uncut (needs_cut (volume_of (g.P.SectorView.space c.args.space.now).content) (data_of (tree_of (g.P.SectorView.space c.args.space.now).content) c.args.command.now)) (λ needs. cut_no_growth c.in-Grows.tree c.in-Grows.more (capacity_of c.args.volume.now) c.args.command.now (g.P.SectorView.space c.args.space.now).content c.requires.changes needs waits))
    it.load it.grow it.costs it.within waits.no_refusal c.in-Grows.tree c.in-Grows.more first.0 first.1 in
    c.grow_first.ensures.ready (c.judge.ensures.looked.reads.looks.same.tells ∙ tells) wants.0

pub returns-in-Fits-clause-alike : goal.returns-in-Fits-clause-alike
returns-in-Fits-clause-alike g c tells it =
    let later = c.judge.ensures.looked.reads.looks.same.tells ∙ tells in
    elim (fits_alike c.args.command.now c.args.volume.now c.judge.new.volume (g.P.SectorView.space c.args.space.now) (g.P.SectorView.space c.judge.new.space) (c.requires.serves.settled tells) c.judge.ensures.looked.reads tells c.requires.changes
    (uncut (needs_cut (volume_of (g.P.SectorView.space c.args.space.now).content) (data_of (tree_of (g.P.SectorView.space c.args.space.now).content) c.args.command.now)) (λ needs. subst IsCutFirst c.in-Fits.is (c.in_ok-why.ensures.cuts tells needs))) it
    (subst (λ (v : Verdict). IsTakenAlike v it.grow) c.in-Fits.is (c.in_ok-why.ensures.alike tells it))) [
      | inl now ↦ c.perform.ensures.ready later c.requires.changes now.0 now.1
      | inr puts ↦ c.perform.ensures.puts later puts
    ]

-- ---- where a cut goes ahead

pub returns-in-Refused-clause-short : goal.returns-in-Refused-clause-short
returns-in-Refused-clause-short g c tells needs same = absurd (refused_now c.refusal.result c.in-Refused.why c.refusal.ensures same)

pub returns-in-CommitFirst-clause-short : goal.returns-in-CommitFirst-clause-short
returns-in-CommitFirst-clause-short g c tells needs = absurd (subst IsCutFirst c.in-CommitFirst.is (c.in_ok-why.ensures.cuts tells needs))

pub returns-in-CutFirst-clause-short : goal.returns-in-CutFirst-clause-short
returns-in-CutFirst-clause-short g c tells needs =
    if_so _ _ c.cut_first.result (λ came short same. lacks_still c.args.volume.now c.judge.new.volume (g.P.SectorView.space c.args.space.now) (g.P.SectorView.space c.judge.new.space) c.judge.ensures.looked.reads tells (short same)) (c.cut_first.ensures.short (c.judge.ensures.looked.reads.looks.same.tells ∙ tells))

pub returns-in-Grows-clause-short : goal.returns-in-Grows-clause-short
returns-in-Grows-clause-short g c tells needs = absurd (subst IsCutFirst c.in-Grows.is (c.in_ok-why.ensures.cuts tells needs))

pub returns-in-Fits-clause-short : goal.returns-in-Fits-clause-short
returns-in-Fits-clause-short g c tells needs = absurd (subst IsCutFirst c.in-Fits.is (c.in_ok-why.ensures.cuts tells needs))

-- ---- what it puts

pub returns-in_err-why-clause-loads : goal.returns-in_err-why-clause-loads
returns-in_err-why-clause-loads g c tells = within_reads c.args.command.now c.args.volume.now c.judge.new.volume (g.P.SectorView.space c.args.space.now) (g.P.SectorView.space c.judge.new.space) c.judge.ensures.looked.reads

pub returns-in-Refused-clause-loads : goal.returns-in-Refused-clause-loads
returns-in-Refused-clause-loads g c tells = within_reads c.args.command.now c.args.volume.now c.judge.new.volume (g.P.SectorView.space c.args.space.now) (g.P.SectorView.space c.judge.new.space) c.judge.ensures.looked.reads

pub returns-in-CommitFirst-clause-loads : goal.returns-in-CommitFirst-clause-loads
returns-in-CommitFirst-clause-loads g c tells = within_reads c.args.command.now c.args.volume.now c.judge.new.volume (g.P.SectorView.space c.args.space.now) (g.P.SectorView.space c.judge.new.space) c.judge.ensures.looked.reads

pub returns-in-CutFirst-clause-loads : goal.returns-in-CutFirst-clause-loads
returns-in-CutFirst-clause-loads g c tells =
    within_behind c.args.command.now c.args.volume.now c.judge.new.volume (g.P.SectorView.space c.args.space.now) (g.P.SectorView.space c.judge.new.space) (g.P.SectorView.space c.cut_first.new.space) c.judge.ensures.looked.reads tells (c.cut_first.ensures.loads (c.judge.ensures.looked.reads.looks.same.tells ∙ tells))

pub returns-in-Grows-clause-loads : goal.returns-in-Grows-clause-loads
returns-in-Grows-clause-loads g c tells =
    let waits : WaitsForGrowth c.in-Grows.tree c.in-Grows.more (capacity_of c.args.volume.now) c.args.command.now (g.P.SectorView.space c.args.space.now).content =
    subst (λ (v : Verdict). IsJudged v (capacity_of c.args.volume.now) c.args.command.now (g.P.SectorView.space c.args.space.now).content) c.in-Grows.is (c.in_ok-why.ensures.judged tells) in
    growth_within c.args.command.now c.args.volume.now c.judge.new.volume (g.P.SectorView.space c.args.space.now) (g.P.SectorView.space c.judge.new.space) (c.requires.serves.settled tells) c.judge.ensures.looked.reads tells c.requires.changes
    (uncut (needs_cut (volume_of (g.P.SectorView.space c.args.space.now).content) (data_of (tree_of (g.P.SectorView.space c.args.space.now).content) c.args.command.now)) (λ needs. cut_no_growth c.in-Grows.tree c.in-Grows.more (capacity_of c.args.volume.now) c.args.command.now (g.P.SectorView.space c.args.space.now).content c.requires.changes needs waits))
    waits.no_refusal c.in-Grows.tree c.in-Grows.more (g.P.SectorView.space c.grow_first.new.space)
    (λ load grow costs. subst (λ (v : Verdict). GrowsTheFirst v grow) c.in-Grows.is (c.in_ok-why.ensures.first tells load grow costs)) (c.grow_first.ensures.spent (c.judge.ensures.looked.reads.looks.same.tells ∙ tells))

pub returns-in-Fits-clause-loads : goal.returns-in-Fits-clause-loads
returns-in-Fits-clause-loads g c tells =
    within_behind c.args.command.now c.args.volume.now c.judge.new.volume (g.P.SectorView.space c.args.space.now) (g.P.SectorView.space c.judge.new.space) (g.P.SectorView.space c.perform.new.space) c.judge.ensures.looked.reads tells (c.perform.ensures.loads (c.judge.ensures.looked.reads.looks.same.tells ∙ tells))

pub perform-requires-clause-filled : goal.perform-requires-clause-filled
perform-requires-clause-filled g c = filled_still c.args.volume.now c.judge.new.volume (g.P.SectorView.space c.args.space.now) (g.P.SectorView.space c.judge.new.space) c.judge.ensures.looked.reads c.requires.filled

pub perform-requires-clause-uncut : goal.perform-requires-clause-uncut
perform-requires-clause-uncut g c told =
    let tells = sym c.judge.ensures.looked.reads.looks.same.tells ∙ told in
    subst (λ (k : Content). needs_cut (volume_of k) (data_of (tree_of k) c.args.command.now) ≡ false) (sym (c.judge.ensures.looked.reads.looks.content tells))
    (uncut (needs_cut (volume_of (g.P.SectorView.space c.args.space.now).content) (data_of (tree_of (g.P.SectorView.space c.args.space.now).content) c.args.command.now)) (λ needs. subst IsCutFirst c.in-Fits.is (c.in_ok-why.ensures.cuts tells needs)))

pub returns-in-Refused-clause-filled : goal.returns-in-Refused-clause-filled
returns-in-Refused-clause-filled g c = filled_none (record c.judge.new.volume { filling = None }) (g.P.SectorView.space c.judge.new.space) refl

pub returns-in-CommitFirst-clause-filled : goal.returns-in-CommitFirst-clause-filled
returns-in-CommitFirst-clause-filled g c = filled_none (record c.judge.new.volume { filling = None }) (g.P.SectorView.space c.judge.new.space) refl

pub returns-in-Refused-clause-further : goal.returns-in-Refused-clause-further
returns-in-Refused-clause-further g c tells same = absurd (answered_again c.refusal.result _ _ c.refusal.ensures same)

pub returns-in-CommitFirst-clause-further : goal.returns-in-CommitFirst-clause-further
returns-in-CommitFirst-clause-further g c tells same = absurd (commit_again same)

pub returns-in-CutFirst-clause-further : goal.returns-in-CutFirst-clause-further
returns-in-CutFirst-clause-further g c tells = if_so _ _ c.cut_first.result (λ it is. cut_further (capacity_of c.args.volume.now) c.args.number c.args.command.now (g.P.SectorView.space c.args.space.now).content (g.P.SectorView.space c.cut_first.new.space).content c.args.volume.now.filling c.cut_first.new.volume.filling it (subst (λ (v : Verdict). IsJudged v (capacity_of c.args.volume.now) c.args.command.now (g.P.SectorView.space c.args.space.now).content) c.in-CutFirst.is (c.in_ok-why.ensures.judged tells)).1 is) (subst (λ (k : ℕ × Content). IfOk c.cut_first.result (λ (o : Outcome). StepsTo o k.0 c.args.number c.args.command.now k.1 (g.P.SectorView.space c.cut_first.new.space).content)) {x = (capacity_of c.judge.new.volume, (g.P.SectorView.space c.judge.new.space).content)} {y = (capacity_of c.args.volume.now, (g.P.SectorView.space c.args.space.now).content)} (λ i. (c.judge.ensures.looked.reads.keeps.capacity i, c.judge.ensures.looked.reads.looks.content tells i)) (c.cut_first.ensures.answered (c.judge.ensures.looked.reads.looks.same.tells ∙ tells)))

pub returns-in-Grows-clause-further : goal.returns-in-Grows-clause-further
returns-in-Grows-clause-further g c tells = if_so _ _ c.grow_first.result (λ it is. growth_further (capacity_of c.args.volume.now) c.args.number c.args.command.now (g.P.SectorView.space c.args.space.now).content (g.P.SectorView.space c.grow_first.new.space).content c.args.volume.now.filling c.grow_first.new.volume.filling it c.in-Grows.tree c.in-Grows.more (subst (λ (v : Verdict). IsJudged v (capacity_of c.args.volume.now) c.args.command.now (g.P.SectorView.space c.args.space.now).content) c.in-Grows.is (c.in_ok-why.ensures.judged tells)) is) (subst (λ (k : ℕ × Content). IfOk c.grow_first.result (λ (o : Outcome). StepsTo o k.0 c.args.number c.args.command.now k.1 (g.P.SectorView.space c.grow_first.new.space).content)) {x = (capacity_of c.judge.new.volume, (g.P.SectorView.space c.judge.new.space).content)} {y = (capacity_of c.args.volume.now, (g.P.SectorView.space c.args.space.now).content)} (λ i. (c.judge.ensures.looked.reads.keeps.capacity i, c.judge.ensures.looked.reads.looks.content tells i)) (c.grow_first.ensures.answered (c.judge.ensures.looked.reads.looks.same.tells ∙ tells)))

pub returns-in-Fits-clause-further : goal.returns-in-Fits-clause-further
returns-in-Fits-clause-further g c tells = if_so _ _ c.perform.result (λ it fills same. inr (inr (subst (λ (k : Content × Option Filling). FillsMore (data_of (tree_of k.0) c.args.command.now) k.1 c.perform.new.volume.filling) {x = ((g.P.SectorView.space c.judge.new.space).content, c.judge.new.volume.filling)} {y = ((g.P.SectorView.space c.args.space.now).content, c.args.volume.now.filling)} (λ i. (c.judge.ensures.looked.reads.looks.content tells i, c.judge.ensures.looked.reads.keeps.filling i)) (fills same)))) (c.perform.ensures.further (c.judge.ensures.looked.reads.looks.same.tells ∙ tells))

pub returns-in-Refused-clause-least : goal.returns-in-Refused-clause-least
returns-in-Refused-clause-least g c tells done = absurd (subst IsDoneOk c.refusal.ensures done)

pub returns-in-CommitFirst-clause-least : goal.returns-in-CommitFirst-clause-least
returns-in-CommitFirst-clause-least g c tells done = absurd done

pub returns-in-CutFirst-clause-least : goal.returns-in-CutFirst-clause-least
returns-in-CutFirst-clause-least g c tells = if_so _ _ c.cut_first.result (λ it never done. absurd (never done)) c.cut_first.ensures.never

pub returns-in-Grows-clause-least : goal.returns-in-Grows-clause-least
returns-in-Grows-clause-least g c tells = if_so _ _ c.grow_first.result (λ it never done. absurd (never done)) c.grow_first.ensures.never

pub returns-in-Fits-clause-least : goal.returns-in-Fits-clause-least
returns-in-Fits-clause-least g c tells = if_so _ _ c.perform.result (λ it few done. subst (λ (k : Content × Option Filling). HasFewLeft c.args.command.now k.1 k.0) {x = ((g.P.SectorView.space c.judge.new.space).content, c.judge.new.volume.filling)} {y = ((g.P.SectorView.space c.args.space.now).content, c.args.volume.now.filling)} (λ i. (c.judge.ensures.looked.reads.looks.content tells i, c.judge.ensures.looked.reads.keeps.filling i)) (few done)) (c.perform.ensures.least (c.judge.ensures.looked.reads.looks.same.tells ∙ tells))

pub returns-in-Refused-clause-hand : goal.returns-in-Refused-clause-hand
returns-in-Refused-clause-hand g c tells = hand_none c.refusal.result (data_of (tree_of (g.P.SectorView.space c.args.space.now).content) c.args.command.now) None refl

pub returns-in-CommitFirst-clause-hand : goal.returns-in-CommitFirst-clause-hand
returns-in-CommitFirst-clause-hand g c tells = tt

pub returns-in-CommitFirst-clause-shrunk : goal.returns-in-CommitFirst-clause-shrunk
returns-in-CommitFirst-clause-shrunk g c tells = c.judge.ensures.looked.reads.keeps.shrunk

pub returns-in-CutFirst-clause-hand : goal.returns-in-CutFirst-clause-hand
returns-in-CutFirst-clause-hand g c tells = hand_dropped c.cut_first.result (data_of (tree_of (g.P.SectorView.space c.args.space.now).content) c.args.command.now) c.cut_first.new.volume.filling c.cut_first.ensures.dropped

pub returns-in-Grows-clause-hand : goal.returns-in-Grows-clause-hand
returns-in-Grows-clause-hand g c tells = hand_dropped c.grow_first.result (data_of (tree_of (g.P.SectorView.space c.args.space.now).content) c.args.command.now) c.grow_first.new.volume.filling c.grow_first.ensures.dropped

pub returns-in-Fits-clause-hand : goal.returns-in-Fits-clause-hand
returns-in-Fits-clause-hand g c tells = subst (λ (k : Content). IfOk c.perform.result (λ (it : Outcome). KeepsGrowth it (data_of (tree_of k) c.args.command.now) c.perform.new.volume.filling)) (c.judge.ensures.looked.reads.looks.content tells) (c.perform.ensures.hand (c.judge.ensures.looked.reads.looks.same.tells ∙ tells))

pub perform-requires-clause-serves : goal.perform-requires-clause-serves
perform-requires-clause-serves g c = c.judge.ensures.serves

pub returns-in-Refused-clause-frame : goal.returns-in-Refused-clause-frame
returns-in-Refused-clause-frame g c = performs_drop None (performs_own (performs_looked_ok c.judge.ensures.looked c.judge.ensures.serves))

pub returns-in-CommitFirst-clause-frame : goal.returns-in-CommitFirst-clause-frame
returns-in-CommitFirst-clause-frame g c = performs_drop None (performs_own (performs_looked_ok c.judge.ensures.looked c.judge.ensures.serves))

pub returns-in-CutFirst-clause-frame : goal.returns-in-CutFirst-clause-frame
returns-in-CutFirst-clause-frame g c = performs_later g.met.P.SectorView.follows_trans c.judge.ensures.looked (performs_own (performs_of c.cut_first.result c.cut_first.ensures.below c.cut_first.ensures.cause c.cut_first.ensures.service c.cut_first.ensures.stands c.cut_first.ensures.settled c.cut_first.ensures.holds c.cut_first.ensures.capacity (λ committed held laid. c.cut_first.ensures.touches committed) (c.cut_first.ensures.touches []).same))

pub returns-in-Grows-clause-frame : goal.returns-in-Grows-clause-frame
returns-in-Grows-clause-frame g c = performs_later g.met.P.SectorView.follows_trans c.judge.ensures.looked (performs_of c.grow_first.result c.grow_first.ensures.below c.grow_first.ensures.cause c.grow_first.ensures.service c.grow_first.ensures.stands c.grow_first.ensures.settled c.grow_first.ensures.holds c.grow_first.ensures.capacity (λ committed held laid. c.grow_first.ensures.touches committed) (c.grow_first.ensures.touches []).same)

pub returns-in-Fits-clause-frame : goal.returns-in-Fits-clause-frame
returns-in-Fits-clause-frame g c = performs_later g.met.P.SectorView.follows_trans c.judge.ensures.looked c.perform.ensures.frame

pub returns-in_err-why-clause-frame : goal.returns-in_err-why-clause-frame
returns-in_err-why-clause-frame g c = performs_err c.from_residual.ensures.1 (performs_own (performs_looked c.in_err-why.ensures.looked c.judge.ensures.serves))
