use Rattle.std.proofs.Common.{◌≡◌, ℕ, [], ◌∷◌, false, inl, inr, refl, sym, ◌∙◌, subst}
use Rattle.std.proofs.lemmas.Bool.{true≢false}
use Rattle.std.specs.Prelude.{IfOk, None, OnOk}
use Rattle.sector_disk.specs.Lists.{Content}
use Rattle.hfs_volume.specs.Aside.{IsJournalSector}
use Rattle.hfs_volume.specs.Content.{volume_of}
use Rattle.hfs_volume.specs.KindWeight.{fork_of_edit, kind_data_of}
use Rattle.hfs_volume.specs.TreeOf.{tree_of}
use Rattle.hfs_volume.specs.Weight.{needs_cut_in}
use Rattle.volume_base.specs.Room.{capacity_of}
use Rattle.volume_space.proofs.Sounding.{sound_here}
use Rattle.volume_step.specs.Steps.{KeepsJournal}
use Rattle.volume_step.specs.declared.judging.Verdict.{Verdict}
use Rattle.volume_step.specs.declared.outcome.Outcome.{Outcome}
use Rattle.volume_base.proofs.Seeing.{if_so}
use Rattle.volume_step.proofs.Done.{same_place}
use Rattle.volume_step.proofs.Loaded.{lacks_still}
use Rattle.volume_step.proofs.Performed.{performs_drop, performs_err, performs_later, performs_looked, performs_looked_ok, performs_own}
use Rattle.volume_step.proofs.Ready.{refused_now}
use Rattle.volume_step.proofs.Unfilled.{filled_none, filled_still}
use Rattle.volume_links.specs.Judging.{IsKindJudged, KindIsWeighedNow, KindWaitsForGrowth}
use Rattle.volume_links.specs.Steps.{KindAffords, KindStepsTo, KindWaitsForCut}
use Rattle.volume_links.proofs.Quiet.{refused_kind}
use Rattle.volume_links.proofs.Waiting.{cut_lacked, fits_still, kind_wants, zeros_were}
use Rattle.volume_links.proofs.stepping.change.Goals as goal

-- ---- refusals, and a commit that is wanted

pub returns-in-Refused-clause-answered : goal.returns-in-Refused-clause-answered
returns-in-Refused-clause-answered g c tells =
    subst (λ (o : Outcome). KindStepsTo o (capacity_of c.args.volume.now) c.args.number c.args.edit.now (g.P.SectorView.space c.args.space.now).content (g.P.SectorView.space c.judge.new.space).content) (sym c.refused.ensures)
    (refused_kind (capacity_of c.args.volume.now) c.args.number c.args.edit.now (g.P.SectorView.space c.args.space.now).content (g.P.SectorView.space c.judge.new.space).content (c.judge.ensures.looked.reads.looks.content tells)
    (sound_here c.args.volume.now (g.P.SectorView.space c.args.space.now) (c.requires.serves.stands.stands tells) (c.requires.serves.settled tells)) c.in-Refused.why
    (subst (λ (v : Verdict). IsKindJudged v (capacity_of c.args.volume.now) c.args.edit.now (g.P.SectorView.space c.args.space.now).content) c.in-Refused.is (c.in_ok-why.ensures.judged tells)))

pub returns-in-Refused-clause-place : goal.returns-in-Refused-clause-place
returns-in-Refused-clause-place g c tells = same_place (g.P.SectorView.space c.args.space.now).content (g.P.SectorView.space c.judge.new.space).content (c.judge.ensures.looked.reads.looks.content tells)

pub returns-in-Refused-clause-filled : goal.returns-in-Refused-clause-filled
returns-in-Refused-clause-filled g c = filled_none (record c.judge.new.volume { filling = None }) (g.P.SectorView.space c.judge.new.space) refl

pub returns-in-Refused-clause-shrunk : goal.returns-in-Refused-clause-shrunk
returns-in-Refused-clause-shrunk g c = c.judge.ensures.looked.reads.keeps.shrunk

pub returns-in-Refused-clause-frame : goal.returns-in-Refused-clause-frame
returns-in-Refused-clause-frame g c = performs_drop None (performs_own (performs_looked_ok c.judge.ensures.looked c.judge.ensures.serves))

pub returns-in-CommitFirst-clause-answered : goal.returns-in-CommitFirst-clause-answered
returns-in-CommitFirst-clause-answered g c tells = c.judge.ensures.looked.reads.looks.content tells

pub returns-in-CommitFirst-clause-place : goal.returns-in-CommitFirst-clause-place
returns-in-CommitFirst-clause-place g c tells = same_place (g.P.SectorView.space c.args.space.now).content (g.P.SectorView.space c.judge.new.space).content (c.judge.ensures.looked.reads.looks.content tells)

pub returns-in-CommitFirst-clause-filled : goal.returns-in-CommitFirst-clause-filled
returns-in-CommitFirst-clause-filled g c = filled_none (record c.judge.new.volume { filling = None }) (g.P.SectorView.space c.judge.new.space) refl

pub returns-in-CommitFirst-clause-shrunk : goal.returns-in-CommitFirst-clause-shrunk
returns-in-CommitFirst-clause-shrunk g c = c.judge.ensures.looked.reads.keeps.shrunk

pub returns-in-CommitFirst-clause-frame : goal.returns-in-CommitFirst-clause-frame
returns-in-CommitFirst-clause-frame g c = performs_drop None (performs_own (performs_looked_ok c.judge.ensures.looked c.judge.ensures.serves))

pub returns-in_err-why-clause-shrunk : goal.returns-in_err-why-clause-shrunk
returns-in_err-why-clause-shrunk g c = c.judge.ensures.looked.reads.keeps.shrunk

pub returns-in_err-why-clause-frame : goal.returns-in_err-why-clause-frame
returns-in_err-why-clause-frame g c = performs_err c.from_residual.ensures.1 (performs_own (performs_looked c.in_err-why.ensures.looked c.judge.ensures.serves))

-- ---- a cut that goes first

pub cut_first-requires-clause-waits : goal.cut_first-requires-clause-waits
cut_first-requires-clause-waits g c told =
    let tells = sym c.judge.ensures.looked.reads.looks.same.tells ∙ told in
    subst (λ (k : Content). KindWaitsForCut k c.args.edit.now) (sym (c.judge.ensures.looked.reads.looks.content tells)) (subst (λ (v : Verdict). IsKindJudged v (capacity_of c.args.volume.now) c.args.edit.now (g.P.SectorView.space c.args.space.now).content) c.in-CutFirst.is (c.in_ok-why.ensures.judged tells))

pub returns-in-CutFirst-clause-answered : goal.returns-in-CutFirst-clause-answered
returns-in-CutFirst-clause-answered g c tells =
    subst (λ (k : ℕ × Content). IfOk c.cut_first.result (λ (o : Outcome). KindStepsTo o k.0 c.args.number c.args.edit.now k.1 (g.P.SectorView.space c.cut_first.new.space).content)) {x = (capacity_of c.judge.new.volume, (g.P.SectorView.space c.judge.new.space).content)} {y = (capacity_of c.args.volume.now, (g.P.SectorView.space c.args.space.now).content)}
    (λ i. (c.judge.ensures.looked.reads.keeps.capacity i, c.judge.ensures.looked.reads.looks.content tells i)) (c.cut_first.ensures.answered (c.judge.ensures.looked.reads.looks.same.tells ∙ tells))

pub returns-in-CutFirst-clause-place : goal.returns-in-CutFirst-clause-place
returns-in-CutFirst-clause-place g c tells = subst (λ (k : Content). OnOk c.cut_first.result (KeepsJournal k (g.P.SectorView.space c.cut_first.new.space).content)) (c.judge.ensures.looked.reads.looks.content tells) (c.cut_first.ensures.place (c.judge.ensures.looked.reads.looks.same.tells ∙ tells))

pub returns-in-CutFirst-clause-shrunk : goal.returns-in-CutFirst-clause-shrunk
returns-in-CutFirst-clause-shrunk g c = c.cut_first.ensures.shrunk ∙ c.judge.ensures.looked.reads.keeps.shrunk

pub returns-in-CutFirst-clause-frame : goal.returns-in-CutFirst-clause-frame
returns-in-CutFirst-clause-frame g c = performs_later g.met.P.SectorView.follows_trans c.judge.ensures.looked c.cut_first.ensures.frame

-- ---- a growth that goes first

pub grow_first-requires-clause-closed : goal.grow_first-requires-clause-closed
grow_first-requires-clause-closed g c told at shut =
    let tells = sym c.judge.ensures.looked.reads.looks.same.tells ∙ told in
    subst (λ (k : Content). IsJournalSector k at) (sym (c.judge.ensures.looked.reads.looks.content tells)) (c.requires.closed tells at ((c.judge.ensures.looked.reads.looks.closed tells at).0 shut))

pub grow_first-requires-clause-waits : goal.grow_first-requires-clause-waits
grow_first-requires-clause-waits g c told =
    let tells = sym c.judge.ensures.looked.reads.looks.same.tells ∙ told in
    subst (λ (k : ℕ × Content). KindWaitsForGrowth c.in-Grows.tree c.in-Grows.more k.0 c.args.edit.now k.1) {x = (capacity_of c.args.volume.now, (g.P.SectorView.space c.args.space.now).content)} {y = (capacity_of c.judge.new.volume, (g.P.SectorView.space c.judge.new.space).content)}
    (λ i. (sym c.judge.ensures.looked.reads.keeps.capacity i, sym (c.judge.ensures.looked.reads.looks.content tells) i))
    (subst (λ (v : Verdict). IsKindJudged v (capacity_of c.args.volume.now) c.args.edit.now (g.P.SectorView.space c.args.space.now).content) c.in-Grows.is (c.in_ok-why.ensures.judged tells))

pub returns-in-Grows-clause-answered : goal.returns-in-Grows-clause-answered
returns-in-Grows-clause-answered g c tells =
    subst (λ (k : ℕ × Content). IfOk c.grow_first.result (λ (o : Outcome). KindStepsTo o k.0 c.args.number c.args.edit.now k.1 (g.P.SectorView.space c.grow_first.new.space).content)) {x = (capacity_of c.judge.new.volume, (g.P.SectorView.space c.judge.new.space).content)} {y = (capacity_of c.args.volume.now, (g.P.SectorView.space c.args.space.now).content)}
    (λ i. (c.judge.ensures.looked.reads.keeps.capacity i, c.judge.ensures.looked.reads.looks.content tells i)) (c.grow_first.ensures.answered (c.judge.ensures.looked.reads.looks.same.tells ∙ tells))

pub returns-in-Grows-clause-place : goal.returns-in-Grows-clause-place
returns-in-Grows-clause-place g c tells = subst (λ (k : Content). OnOk c.grow_first.result (KeepsJournal k (g.P.SectorView.space c.grow_first.new.space).content)) (c.judge.ensures.looked.reads.looks.content tells) (c.grow_first.ensures.place (c.judge.ensures.looked.reads.looks.same.tells ∙ tells))

pub returns-in-Grows-clause-shrunk : goal.returns-in-Grows-clause-shrunk
returns-in-Grows-clause-shrunk g c = c.grow_first.ensures.shrunk ∙ c.judge.ensures.looked.reads.keeps.shrunk

pub returns-in-Grows-clause-frame : goal.returns-in-Grows-clause-frame
returns-in-Grows-clause-frame g c = performs_later g.met.P.SectorView.follows_trans c.judge.ensures.looked c.grow_first.ensures.frame

-- ---- nothing stands in its way

pub perform-requires-clause-closed : goal.perform-requires-clause-closed
perform-requires-clause-closed g c told at shut =
    let tells = sym c.judge.ensures.looked.reads.looks.same.tells ∙ told in
    subst (λ (k : Content). IsJournalSector k at) (sym (c.judge.ensures.looked.reads.looks.content tells)) (c.requires.closed tells at ((c.judge.ensures.looked.reads.looks.closed tells at).0 shut))

pub perform-requires-clause-filled : goal.perform-requires-clause-filled
perform-requires-clause-filled g c = filled_still c.args.volume.now c.judge.new.volume (g.P.SectorView.space c.args.space.now) (g.P.SectorView.space c.judge.new.space) c.judge.ensures.looked.reads c.requires.filled

pub perform-requires-clause-affords : goal.perform-requires-clause-affords
perform-requires-clause-affords g c told =
    let tells = sym c.judge.ensures.looked.reads.looks.same.tells ∙ told in
    subst (λ (k : ℕ × Content). KindAffords k.0 c.args.edit.now k.1) {x = (capacity_of c.args.volume.now, (g.P.SectorView.space c.args.space.now).content)} {y = (capacity_of c.judge.new.volume, (g.P.SectorView.space c.judge.new.space).content)}
    (λ i. (sym c.judge.ensures.looked.reads.keeps.capacity i, sym (c.judge.ensures.looked.reads.looks.content tells) i))
    (subst (λ (v : Verdict). IsKindJudged v (capacity_of c.args.volume.now) c.args.edit.now (g.P.SectorView.space c.args.space.now).content) c.in-Fits.is (c.in_ok-why.ensures.judged tells)).0

pub perform-requires-clause-uncut : goal.perform-requires-clause-uncut
perform-requires-clause-uncut g c told =
    let tells = sym c.judge.ensures.looked.reads.looks.same.tells ∙ told in
    subst (λ (k : Content). needs_cut_in (fork_of_edit c.args.edit.now) (volume_of k) (kind_data_of (tree_of k) c.args.edit.now) ≡ false) (sym (c.judge.ensures.looked.reads.looks.content tells))
    (subst (λ (v : Verdict). IsKindJudged v (capacity_of c.args.volume.now) c.args.edit.now (g.P.SectorView.space c.args.space.now).content) c.in-Fits.is (c.in_ok-why.ensures.judged tells)).1

pub returns-in-Fits-clause-answered : goal.returns-in-Fits-clause-answered
returns-in-Fits-clause-answered g c tells =
    subst (λ (k : ℕ × Content). IfOk c.perform.result (λ (o : Outcome). KindStepsTo o k.0 c.args.number c.args.edit.now k.1 (g.P.SectorView.space c.perform.new.space).content)) {x = (capacity_of c.judge.new.volume, (g.P.SectorView.space c.judge.new.space).content)} {y = (capacity_of c.args.volume.now, (g.P.SectorView.space c.args.space.now).content)}
    (λ i. (c.judge.ensures.looked.reads.keeps.capacity i, c.judge.ensures.looked.reads.looks.content tells i)) (c.perform.ensures.answered (c.judge.ensures.looked.reads.looks.same.tells ∙ tells))

pub returns-in-Fits-clause-place : goal.returns-in-Fits-clause-place
returns-in-Fits-clause-place g c tells = subst (λ (k : Content). OnOk c.perform.result (KeepsJournal k (g.P.SectorView.space c.perform.new.space).content)) (c.judge.ensures.looked.reads.looks.content tells) (c.perform.ensures.place (c.judge.ensures.looked.reads.looks.same.tells ∙ tells))

pub returns-in-Fits-clause-shrunk : goal.returns-in-Fits-clause-shrunk
returns-in-Fits-clause-shrunk g c = c.perform.ensures.shrunk ∙ c.judge.ensures.looked.reads.keeps.shrunk

pub returns-in-Fits-clause-frame : goal.returns-in-Fits-clause-frame
returns-in-Fits-clause-frame g c = performs_later g.met.P.SectorView.follows_trans c.judge.ensures.looked c.perform.ensures.frame

-- ---- where a cut goes ahead, the room for it

pub returns-in-Refused-clause-short : goal.returns-in-Refused-clause-short
returns-in-Refused-clause-short g c tells needs same = absurd (refused_now c.refused.result c.in-Refused.why c.refused.ensures same)

pub returns-in-CommitFirst-clause-short : goal.returns-in-CommitFirst-clause-short
returns-in-CommitFirst-clause-short g c tells needs =
    absurd (true≢false (sym needs ∙ (subst (λ (v : Verdict). IsKindJudged v (capacity_of c.args.volume.now) c.args.edit.now (g.P.SectorView.space c.args.space.now).content) c.in-CommitFirst.is (c.in_ok-why.ensures.judged tells)).1))

pub returns-in-CutFirst-clause-short : goal.returns-in-CutFirst-clause-short
returns-in-CutFirst-clause-short g c tells needs =
    if_so _ _ c.cut_first.result (λ came short same. lacks_still c.args.volume.now c.judge.new.volume (g.P.SectorView.space c.args.space.now) (g.P.SectorView.space c.judge.new.space) c.judge.ensures.looked.reads tells (short same).room) (c.cut_first.ensures.waits (c.judge.ensures.looked.reads.looks.same.tells ∙ tells))

pub returns-in-Grows-clause-short : goal.returns-in-Grows-clause-short
returns-in-Grows-clause-short g c tells needs =
    absurd (true≢false (sym needs ∙ (subst (λ (v : Verdict). IsKindJudged v (capacity_of c.args.volume.now) c.args.edit.now (g.P.SectorView.space c.args.space.now).content) c.in-Grows.is (c.in_ok-why.ensures.judged tells)).uncut))

pub returns-in-Fits-clause-short : goal.returns-in-Fits-clause-short
returns-in-Fits-clause-short g c tells needs =
    absurd (true≢false (sym needs ∙ (subst (λ (v : Verdict). IsKindJudged v (capacity_of c.args.volume.now) c.args.edit.now (g.P.SectorView.space c.args.space.now).content) c.in-Fits.is (c.in_ok-why.ensures.judged tells)).1))

-- ---- why a commit comes first

pub returns-in-Refused-clause-waits : goal.returns-in-Refused-clause-waits
returns-in-Refused-clause-waits g c tells same = absurd (refused_now c.refused.result c.in-Refused.why c.refused.ensures same)

pub returns-in-CommitFirst-clause-waits : goal.returns-in-CommitFirst-clause-waits
returns-in-CommitFirst-clause-waits g c tells same =
    (c.requires.changes, inr (inl (subst (λ (v : Verdict). KindIsWeighedNow v c.args.volume.now (g.P.SectorView.space c.args.space.now) c.args.edit.now) c.in-CommitFirst.is (c.in_ok-why.ensures.now tells))))

pub returns-in-CutFirst-clause-waits : goal.returns-in-CutFirst-clause-waits
returns-in-CutFirst-clause-waits g c tells =
    let reads = c.judge.ensures.looked.reads in
    if_so _ _ c.cut_first.result (λ came short same. (c.requires.changes, inl (cut_lacked c.args.volume.now c.judge.new.volume (g.P.SectorView.space c.args.space.now) (g.P.SectorView.space c.judge.new.space) reads tells c.args.edit.now (short same))))
    (c.cut_first.ensures.waits (reads.looks.same.tells ∙ tells))

pub returns-in-Grows-clause-waits : goal.returns-in-Grows-clause-waits
returns-in-Grows-clause-waits g c tells =
    let v = c.args.volume.now in
    let a = g.P.SectorView.space c.args.space.now in
    let w = c.judge.new.volume in
    let b = g.P.SectorView.space c.judge.new.space in
    let reads = c.judge.ensures.looked.reads in
    let grows = subst (λ (it : Verdict). IsKindJudged it (capacity_of v) c.args.edit.now a.content) c.in-Grows.is (c.in_ok-why.ensures.judged tells) in
    elim (subst (λ (it : Verdict). KindIsWeighedNow it v a c.args.edit.now) c.in-Grows.is (c.in_ok-why.ensures.now tells)) [
      | inl lacks ↦ if_so _ _ c.grow_first.result (λ came place same. (c.requires.changes, inr (inl (inl lacks)))) (c.grow_first.ensures.answered (reads.looks.same.tells ∙ tells))
      | inr fits ↦ if_so _ _ c.grow_first.result (λ came never same. absurd (never same))
          (c.grow_first.ensures.ready (reads.looks.same.tells ∙ tells)
          (kind_wants w b c.args.edit.now c.requires.changes (subst (λ (k : Content). needs_cut_in (fork_of_edit c.args.edit.now) (volume_of k) (kind_data_of (tree_of k) c.args.edit.now) ≡ false) (sym (reads.looks.content tells)) grows.uncut)
          c.in-Grows.tree c.in-Grows.more grows.some fits.0 fits.1 (fits_still v w a b reads tells c.args.edit.now fits.0 fits.2)))
    ]

pub perform-requires-clause-now : goal.perform-requires-clause-now
perform-requires-clause-now g c told =
    let reads = c.judge.ensures.looked.reads in
    let tells = sym reads.looks.same.tells ∙ told in
    fits_still c.args.volume.now c.judge.new.volume (g.P.SectorView.space c.args.space.now) (g.P.SectorView.space c.judge.new.space) reads tells c.args.edit.now (0 ∷ 0 ∷ 0 ∷ [])
    (subst (λ (v : Verdict). KindIsWeighedNow v c.args.volume.now (g.P.SectorView.space c.args.space.now) c.args.edit.now) c.in-Fits.is (c.in_ok-why.ensures.now tells))

pub returns-in-Fits-clause-waits : goal.returns-in-Fits-clause-waits
returns-in-Fits-clause-waits g c tells =
    let reads = c.judge.ensures.looked.reads in
    if_so _ _ c.perform.result (λ came many same. (c.requires.changes, inr (inr (zeros_were c.args.volume.now c.judge.new.volume (g.P.SectorView.space c.args.space.now) (g.P.SectorView.space c.judge.new.space) reads tells c.args.edit.now (many same)))))
    (c.perform.ensures.waits (reads.looks.same.tells ∙ tells))
