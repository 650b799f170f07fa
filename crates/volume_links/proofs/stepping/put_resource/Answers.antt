use Rattle.std.proofs.Common.{◌≡◌, ◌≤◌, ◌+◌, ◌^◌, ℕ, [], ◌∷◌, false, length, sym, ◌∙◌, ap, subst}
use Rattle.std.proofs.lemmas.Bool.{true≢false}
use Rattle.std.specs.Prelude.{IfOk, OnOk, Result}
use Rattle.sector_disk.specs.Lists.{Content}
use Rattle.hfs_language.specs.declared.refusal.Refusal.{Refusal}
use Rattle.hfs_model.specs.Step.{Step, is_refusal}
use Rattle.hfs_model.specs.declared.kinds.KindEdit.TheVariants as edit
use Rattle.hfs_volume.specs.Aside.{IsJournalSector}
use Rattle.hfs_volume.specs.Content.{volume_of}
use Rattle.hfs_volume.specs.Forks.{resource_kind}
use Rattle.hfs_volume.specs.KindWeight.{kind_data_of}
use Rattle.hfs_volume.specs.TreeOf.{tree_of}
use Rattle.hfs_volume.specs.Weight.{needs_cut_in}
use Rattle.volume_base.specs.Room.{capacity_of}
use Rattle.volume_step.specs.Steps.{KeepsJournal}
use Rattle.volume_step.specs.declared.outcome.Outcome.{Outcome}
use Rattle.volume_step.proofs.Done.{same_place}
use Rattle.volume_step.proofs.Performed.{performs_err, performs_later, performs_looked, performs_looked_ok, performs_own}
use Rattle.volume_step.proofs.Unfilled.{filled_still}
use Rattle.volume_links.specs.Resources.{IsResourceOf, IsToldResource}
use Rattle.volume_links.specs.Steps.{KindAffords, KindStepsTo}
use Rattle.volume_links.specs.declared.resources.Resource.{Resource}
use Rattle.volume_base.proofs.Seeing.{if_so}
use Rattle.volume_step.proofs.Ready.{refused_now}
use Rattle.volume_links.proofs.Waiting.{fits_still, zeros_were}
use Rattle.volume_links.proofs.stepping.put_resource.Goals as goal

pub put_found-requires-clause-filled : goal.put_found-requires-clause-filled
put_found-requires-clause-filled g c = filled_still c.args.volume.now c.to_write.new.volume (g.P.SectorView.space c.args.space.now) (g.P.SectorView.space c.to_write.new.space) c.to_write.ensures.looked.reads c.requires.filled

pub put_found-requires-clause-closed : goal.put_found-requires-clause-closed
put_found-requires-clause-closed g c told at shut =
    let reads = c.to_write.ensures.looked.reads in
    let tells = sym reads.looks.same.tells ∙ told in
    subst (λ (k : Content). IsJournalSector k at) (sym (reads.looks.content tells)) (c.requires.closed tells at ((reads.looks.closed tells at).0 shut))

pub put_found-requires-clause-small : goal.put_found-requires-clause-small
put_found-requires-clause-small g c = subst (λ (r : Result Resource Refusal). IfOk r (λ fork. c.args.from + length c.args.value.now ≤ 2 ^ 40)) c.in-Ok.is c.in_ok-found.ensures.small

pub put_found-requires-clause-there : goal.put_found-requires-clause-there
put_found-requires-clause-there g c told =
    let tells = sym c.to_write.ensures.looked.reads.looks.same.tells ∙ told in
    subst (λ (k : Content). IsResourceOf (tree_of k) c.args.path.now c.args.from c.args.value.now c.in-Ok.fork) (sym (c.to_write.ensures.looked.reads.looks.content tells))
    (subst (λ (r : Result Resource Refusal). IsToldResource (tree_of (g.P.SectorView.space c.args.space.now).content) c.args.path.now c.args.from c.args.value.now r) c.in-Ok.is (c.in_ok-found.ensures.told tells))

pub put_found-requires-clause-affords : goal.put_found-requires-clause-affords
put_found-requires-clause-affords g c told =
    let tells = sym c.to_write.ensures.looked.reads.looks.same.tells ∙ told in
    subst (λ (k : ℕ × Content). KindAffords k.0 (edit.ResourceWrite c.args.path.now c.args.from c.args.value.now) k.1) {x = (capacity_of c.args.volume.now, (g.P.SectorView.space c.args.space.now).content)} {y = (capacity_of c.to_write.new.volume, (g.P.SectorView.space c.to_write.new.space).content)}
    (λ i. (sym c.to_write.ensures.looked.reads.keeps.capacity i, sym (c.to_write.ensures.looked.reads.looks.content tells) i)) (c.requires.affords tells)

pub put_found-requires-clause-uncut : goal.put_found-requires-clause-uncut
put_found-requires-clause-uncut g c told =
    let tells = sym c.to_write.ensures.looked.reads.looks.same.tells ∙ told in
    subst (λ (k : Content). needs_cut_in resource_kind (volume_of k) (kind_data_of (tree_of k) (edit.ResourceWrite c.args.path.now c.args.from c.args.value.now)) ≡ false) (sym (c.to_write.ensures.looked.reads.looks.content tells)) (c.requires.uncut tells)

pub returns-in-Ok-clause-answered : goal.returns-in-Ok-clause-answered
returns-in-Ok-clause-answered g c tells =
    subst (λ (k : ℕ × Content). IfOk c.put_found.result (λ (o : Outcome). KindStepsTo o k.0 c.args.number (edit.ResourceWrite c.args.path.now c.args.from c.args.value.now) k.1 (g.P.SectorView.space c.put_found.new.space).content)) {x = (capacity_of c.to_write.new.volume, (g.P.SectorView.space c.to_write.new.space).content)} {y = (capacity_of c.args.volume.now, (g.P.SectorView.space c.args.space.now).content)}
    (λ i. (c.to_write.ensures.looked.reads.keeps.capacity i, c.to_write.ensures.looked.reads.looks.content tells i)) (c.put_found.ensures.answered (c.to_write.ensures.looked.reads.looks.same.tells ∙ tells))

pub returns-in-Ok-clause-place : goal.returns-in-Ok-clause-place
returns-in-Ok-clause-place g c tells = subst (λ (k : Content). OnOk c.put_found.result (KeepsJournal k (g.P.SectorView.space c.put_found.new.space).content)) (c.to_write.ensures.looked.reads.looks.content tells) (c.put_found.ensures.place (c.to_write.ensures.looked.reads.looks.same.tells ∙ tells))

pub returns-in-Ok-clause-shrunk : goal.returns-in-Ok-clause-shrunk
returns-in-Ok-clause-shrunk g c = c.put_found.ensures.shrunk ∙ c.to_write.ensures.looked.reads.keeps.shrunk

pub returns-in-Ok-clause-frame : goal.returns-in-Ok-clause-frame
returns-in-Ok-clause-frame g c = performs_later g.met.P.SectorView.follows_trans c.to_write.ensures.looked c.put_found.ensures.frame

-- nothing stands against it, so it isn't refused
pub returns-in-Err-clause-answered : goal.returns-in-Err-clause-answered
returns-in-Err-clause-answered g c tells =
    absurd (true≢false (sym (ap (λ (s : Step). is_refusal s.0) (subst (λ (r : Result Resource Refusal). IsToldResource (tree_of (g.P.SectorView.space c.args.space.now).content) c.args.path.now c.args.from c.args.value.now r) c.in-Err.is (c.in_ok-found.ensures.told tells)))
    ∙ (c.requires.affords tells).no_refusal))

pub returns-in-Err-clause-place : goal.returns-in-Err-clause-place
returns-in-Err-clause-place g c tells = same_place (g.P.SectorView.space c.args.space.now).content (g.P.SectorView.space c.to_write.new.space).content (c.to_write.ensures.looked.reads.looks.content tells)

pub returns-in-Err-clause-filled : goal.returns-in-Err-clause-filled
returns-in-Err-clause-filled g c = filled_still c.args.volume.now c.to_write.new.volume (g.P.SectorView.space c.args.space.now) (g.P.SectorView.space c.to_write.new.space) c.to_write.ensures.looked.reads c.requires.filled

pub returns-in-Err-clause-shrunk : goal.returns-in-Err-clause-shrunk
returns-in-Err-clause-shrunk g c = c.to_write.ensures.looked.reads.keeps.shrunk

pub returns-in-Err-clause-frame : goal.returns-in-Err-clause-frame
returns-in-Err-clause-frame g c = performs_own (performs_looked_ok c.to_write.ensures.looked c.to_write.ensures.serves)

pub returns-in_err-found-clause-shrunk : goal.returns-in_err-found-clause-shrunk
returns-in_err-found-clause-shrunk g c = c.to_write.ensures.looked.reads.keeps.shrunk

pub returns-in_err-found-clause-frame : goal.returns-in_err-found-clause-frame
returns-in_err-found-clause-frame g c = performs_err c.from_residual.ensures.1 (performs_own (performs_looked c.in_err-found.ensures.looked c.to_write.ensures.serves))

-- ---- a commit that comes first

pub put_found-requires-clause-now : goal.put_found-requires-clause-now
put_found-requires-clause-now g c told =
    let reads = c.to_write.ensures.looked.reads in
    let tells = sym reads.looks.same.tells ∙ told in
    fits_still c.args.volume.now c.to_write.new.volume (g.P.SectorView.space c.args.space.now) (g.P.SectorView.space c.to_write.new.space) reads tells (edit.ResourceWrite c.args.path.now c.args.from c.args.value.now) (0 ∷ 0 ∷ 0 ∷ []) (c.requires.now tells)

pub returns-in-Ok-clause-waits : goal.returns-in-Ok-clause-waits
returns-in-Ok-clause-waits g c tells =
    let reads = c.to_write.ensures.looked.reads in
    if_so _ _ c.put_found.result (λ it many same. zeros_were c.args.volume.now c.to_write.new.volume (g.P.SectorView.space c.args.space.now) (g.P.SectorView.space c.to_write.new.space) reads tells (edit.ResourceWrite c.args.path.now c.args.from c.args.value.now) (many same))
    (c.put_found.ensures.waits (reads.looks.same.tells ∙ tells))

pub returns-in-Err-clause-waits : goal.returns-in-Err-clause-waits
returns-in-Err-clause-waits g c tells same = absurd (refused_now c.refused.result c.in-Err.why c.refused.ensures same)
