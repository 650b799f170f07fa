use Rattle.std.proofs.Common.{◌≡◌, ℕ, [], ◌∷◌, false, inr, refl, sym, ◌∙◌, ap, subst}
use Rattle.std.specs.Prelude.{None, OnOk}
use Rattle.sector_disk.specs.Lists.{Content}
use Rattle.hfs_model.specs.declared.kinds.KindEdit.TheVariants as edit
use Rattle.hfs_volume.specs.Aside.{IsJournalSector}
use Rattle.hfs_volume.specs.TreeOf.{tree_of}
use Rattle.volume_base.specs.Room.{capacity_of}
use Rattle.volume_base.specs.declared.volume.Volume.{Volume}
use Rattle.volume_step.specs.Steps.{KeepsJournal}
use Rattle.volume_base.proofs.Framed.{looked_of}
use Rattle.volume_base.proofs.Seeing.{if_so}
use Rattle.volume_step.proofs.Done.{same_place}
use Rattle.volume_step.proofs.FilledFirst.{commit_none, few_none, filled_some, fills_place}
use Rattle.volume_step.proofs.Performed.{performs_drop, performs_err, performs_from, performs_later, performs_ok, performs_own}
use Rattle.volume_step.proofs.Unfilled.{filled_none}
use Rattle.volume_links.specs.Resources.{IsResourceOf}
use Rattle.volume_links.specs.Steps.{KindAffords, KindStepsNow}
use Rattle.volume_links.proofs.Stepped.{now_steps}
use Rattle.hfs_volume.specs.Content.{volume_of}
use Rattle.hfs_volume.specs.Forks.{resource_kind}
use Rattle.hfs_volume.specs.KindWeight.{kind_data_of}
use Rattle.hfs_volume.specs.Weight.{needs_cut_in}
use Rattle.volume_step.specs.declared.outcome.Outcome.TheVariants as outcome
use Rattle.volume_links.proofs.Waiting.{fits_filling, fits_still}
use Rattle.volume_space.specs.declared.zeroing.Zeros.TheVariants as zeros
use Rattle.volume_links.proofs.putting.put_found.Goals as goal

pub do_resource-requires-clause-serves : goal.do_resource-requires-clause-serves
do_resource-requires-clause-serves g c = c.in_ok-zeros.ensures.frame.serves

pub do_resource-requires-clause-filled : goal.do_resource-requires-clause-filled
do_resource-requires-clause-filled g c = c.in_ok-zeros.ensures.filled

pub do_resource-requires-clause-closed : goal.do_resource-requires-clause-closed
do_resource-requires-clause-closed g c told at shut =
    let reads = c.in_ok-zeros.ensures.reads (few_none c.in_ok-zeros.zeros c.in-Few.is) in
    let tells = sym reads.looks.same.tells ∙ told in
    subst (λ (k : Content). IsJournalSector k at) (sym (reads.looks.content tells)) (c.requires.closed tells at ((reads.looks.closed tells at).0 shut))

pub do_resource-requires-clause-there : goal.do_resource-requires-clause-there
do_resource-requires-clause-there g c told =
    let reads = c.in_ok-zeros.ensures.reads (few_none c.in_ok-zeros.zeros c.in-Few.is) in
    let tells = sym reads.looks.same.tells ∙ told in
    subst (λ (k : Content). IsResourceOf (tree_of k) c.args.path.now c.args.from c.args.value.now c.args.fork) (sym (reads.looks.content tells)) (c.requires.there tells)

pub do_resource-requires-clause-affords : goal.do_resource-requires-clause-affords
do_resource-requires-clause-affords g c told =
    let reads = c.in_ok-zeros.ensures.reads (few_none c.in_ok-zeros.zeros c.in-Few.is) in
    let tells = sym reads.looks.same.tells ∙ told in
    subst (λ (k : ℕ × Content). KindAffords k.0 (edit.ResourceWrite c.args.path.now c.args.from c.args.value.now) k.1) {x = (capacity_of c.args.volume.now, (g.P.SectorView.space c.args.space.now).content)} {y = (capacity_of c.fill_resource.new.volume, (g.P.SectorView.space c.fill_resource.new.space).content)}
    (λ i. (sym (ap (λ (x : Volume). x.capacity) c.fill_resource.ensures.rest) i, sym (reads.looks.content tells) i)) (c.requires.affords tells)

pub returns-in-Few-clause-answered : goal.returns-in-Few-clause-answered
returns-in-Few-clause-answered g c tells =
    let reads = c.in_ok-zeros.ensures.reads (few_none c.in_ok-zeros.zeros c.in-Few.is) in
    if_so _ _ c.do_resource.result (λ it is. now_steps it (capacity_of c.args.volume.now) c.args.number (edit.ResourceWrite c.args.path.now c.args.from c.args.value.now) (g.P.SectorView.space c.args.space.now).content (g.P.SectorView.space c.do_resource.new.space).content
    (subst (λ (k : ℕ × Content). KindStepsNow it k.0 c.args.number (edit.ResourceWrite c.args.path.now c.args.from c.args.value.now) k.1 (g.P.SectorView.space c.do_resource.new.space).content) {x = (capacity_of c.fill_resource.new.volume, (g.P.SectorView.space c.fill_resource.new.space).content)} {y = (capacity_of c.args.volume.now, (g.P.SectorView.space c.args.space.now).content)}
    (λ i. (ap (λ (x : Volume). x.capacity) c.fill_resource.ensures.rest i, reads.looks.content tells i)) is))
    (c.do_resource.ensures.answered (reads.looks.same.tells ∙ tells))

pub returns-in-Few-clause-place : goal.returns-in-Few-clause-place
returns-in-Few-clause-place g c tells =
    let reads = c.in_ok-zeros.ensures.reads (few_none c.in_ok-zeros.zeros c.in-Few.is) in
    subst (λ (k : Content). OnOk c.do_resource.result (KeepsJournal k (g.P.SectorView.space c.do_resource.new.space).content)) (reads.looks.content tells) (c.do_resource.ensures.place (reads.looks.same.tells ∙ tells))

pub returns-in-Few-clause-shrunk : goal.returns-in-Few-clause-shrunk
returns-in-Few-clause-shrunk g c = c.do_resource.ensures.shrunk ∙ ap (λ (x : Volume). x.shrunk) c.fill_resource.ensures.rest

pub returns-in-Few-clause-frame : goal.returns-in-Few-clause-frame
returns-in-Few-clause-frame g c = performs_from c.fill_resource.new.volume.filling (performs_later g.met.P.SectorView.follows_trans (looked_of c.fill_resource.ensures.frame.below c.fill_resource.ensures.frame.cause c.in_ok-zeros.ensures.frame.serves.stands (c.in_ok-zeros.ensures.reads (few_none c.in_ok-zeros.zeros c.in-Few.is))) (performs_own c.do_resource.ensures.frame))

pub returns-in-Filled-clause-answered : goal.returns-in-Filled-clause-answered
returns-in-Filled-clause-answered g c tells =
    let affords = c.requires.affords tells in
    inr (inr (record {
      no_refusal = affords.no_refusal;
      no_surplus = c.requires.uncut tells;
      load = affords.load;
      affords = affords.affords;
      many = c.in_ok-zeros.ensures.many tells (filled_some c.in_ok-zeros.zeros c.in-Filled.is);
      fills = c.in_ok-zeros.ensures.fills tells c.in-Filled.is;
    }))

pub returns-in-Filled-clause-place : goal.returns-in-Filled-clause-place
returns-in-Filled-clause-place g c tells = fills_place (g.P.SectorView.space c.args.space.now).content (g.P.SectorView.space c.fill_resource.new.space).content (c.in_ok-zeros.ensures.fills tells c.in-Filled.is)

pub returns-in-Filled-clause-filled : goal.returns-in-Filled-clause-filled
returns-in-Filled-clause-filled g c = c.in_ok-zeros.ensures.filled

pub returns-in-Filled-clause-shrunk : goal.returns-in-Filled-clause-shrunk
returns-in-Filled-clause-shrunk g c = ap (λ (x : Volume). x.shrunk) c.fill_resource.ensures.rest

pub returns-in-Filled-clause-frame : goal.returns-in-Filled-clause-frame
returns-in-Filled-clause-frame g c = performs_ok (performs_own c.in_ok-zeros.ensures.frame)

pub returns-in-CommitFirst-clause-answered : goal.returns-in-CommitFirst-clause-answered
returns-in-CommitFirst-clause-answered g c tells = (c.in_ok-zeros.ensures.reads (commit_none c.in_ok-zeros.zeros c.in-CommitFirst.is)).looks.content tells

pub returns-in-CommitFirst-clause-place : goal.returns-in-CommitFirst-clause-place
returns-in-CommitFirst-clause-place g c tells = same_place (g.P.SectorView.space c.args.space.now).content (g.P.SectorView.space c.fill_resource.new.space).content ((c.in_ok-zeros.ensures.reads (commit_none c.in_ok-zeros.zeros c.in-CommitFirst.is)).looks.content tells)

pub returns-in-CommitFirst-clause-filled : goal.returns-in-CommitFirst-clause-filled
returns-in-CommitFirst-clause-filled g c = filled_none (record c.fill_resource.new.volume { filling = None }) (g.P.SectorView.space c.fill_resource.new.space) refl

pub returns-in-CommitFirst-clause-shrunk : goal.returns-in-CommitFirst-clause-shrunk
returns-in-CommitFirst-clause-shrunk g c = ap (λ (x : Volume). x.shrunk) c.fill_resource.ensures.rest

pub returns-in-CommitFirst-clause-frame : goal.returns-in-CommitFirst-clause-frame
returns-in-CommitFirst-clause-frame g c = performs_ok (performs_drop None (performs_own c.in_ok-zeros.ensures.frame))

pub returns-in_err-zeros-clause-shrunk : goal.returns-in_err-zeros-clause-shrunk
returns-in_err-zeros-clause-shrunk g c = ap (λ (x : Volume). x.shrunk) c.fill_resource.ensures.rest

pub returns-in_err-zeros-clause-frame : goal.returns-in_err-zeros-clause-frame
returns-in_err-zeros-clause-frame g c = performs_err c.from_residual.ensures.1 (performs_own c.in_err-zeros.ensures.frame)

-- ---- a commit comes first only before many zero blocks

pub do_resource-requires-clause-uncut : goal.do_resource-requires-clause-uncut
do_resource-requires-clause-uncut g c told =
    let reads = c.in_ok-zeros.ensures.reads (few_none c.in_ok-zeros.zeros c.in-Few.is) in
    let tells = sym reads.looks.same.tells ∙ told in
    subst (λ (k : Content). needs_cut_in resource_kind (volume_of k) (kind_data_of (tree_of k) (edit.ResourceWrite c.args.path.now c.args.from c.args.value.now)) ≡ false) (sym (reads.looks.content tells)) (c.requires.uncut tells)

pub do_resource-requires-clause-now : goal.do_resource-requires-clause-now
do_resource-requires-clause-now g c told =
    let reads = c.in_ok-zeros.ensures.reads (few_none c.in_ok-zeros.zeros c.in-Few.is) in
    let tells = sym reads.looks.same.tells ∙ told in
    fits_still (record c.args.volume.now { filling = c.fill_resource.new.volume.filling }) c.fill_resource.new.volume (g.P.SectorView.space c.args.space.now) (g.P.SectorView.space c.fill_resource.new.space) reads tells (edit.ResourceWrite c.args.path.now c.args.from c.args.value.now) (0 ∷ 0 ∷ 0 ∷ [])
    (fits_filling c.args.volume.now c.fill_resource.new.volume.filling (g.P.SectorView.space c.args.space.now) (edit.ResourceWrite c.args.path.now c.args.from c.args.value.now) (0 ∷ 0 ∷ 0 ∷ []) (c.requires.now tells))

pub returns-in-Few-clause-waits : goal.returns-in-Few-clause-waits
returns-in-Few-clause-waits g c tells =
    let reads = c.in_ok-zeros.ensures.reads (few_none c.in_ok-zeros.zeros c.in-Few.is) in
    if_so _ _ c.do_resource.result (λ it never same. absurd (never same)) (c.do_resource.ensures.done (reads.looks.same.tells ∙ tells))

pub returns-in-Filled-clause-waits : goal.returns-in-Filled-clause-waits
returns-in-Filled-clause-waits g c tells same = let never : outcome.Again ≡ outcome.CommitFirst = same in cc never

pub returns-in-CommitFirst-clause-waits : goal.returns-in-CommitFirst-clause-waits
returns-in-CommitFirst-clause-waits g c tells same = record { many = c.in_ok-zeros.ensures.many tells (λ few. let never : zeros.CommitFirst ≡ zeros.Few = sym c.in-CommitFirst.is ∙ few in cc never); put = c.in_ok-zeros.ensures.commit c.in-CommitFirst.is }
