use Rattle.std.proofs.Common.{◌≡◌, ℕ, false, List, [], ◌∷◌, refl, sym, ◌∙◌, ap, subst}
use Rattle.std.specs.Prelude.{IfOk, None}
use Rattle.hfs_model.specs.declared.kinds.KindEdit.{KindEdit}
use Rattle.hfs_model.specs.declared.kinds.KindEdit.TheVariants as edit
use Rattle.hfs_volume.specs.Content.{volume_of}
use Rattle.hfs_volume.specs.KindWeight.{fork_of_edit, kind_data_of, kind_only_reads}
use Rattle.hfs_volume.specs.TreeOf.{tree_of}
use Rattle.hfs_volume.specs.Weight.{needs_cut_in}
use Rattle.volume_base.specs.Room.{capacity_of}
use Rattle.volume_runs.specs.Fits.{FitsEdit}
use Rattle.volume_step.specs.declared.outcome.Outcome.{Outcome}
use Rattle.volume_step.proofs.Done.{same_place}
use Rattle.volume_step.proofs.Unfilled.{filled_none}
use Rattle.volume_links.specs.Steps.{KindAffords, KindStepsTo}
use Rattle.volume_links.proofs.Dropping.{unfilled}
use Rattle.std.proofs.lemmas.Bool.{true≢false}
use Rattle.volume_base.proofs.Seeing.{if_so}
use Rattle.volume_step.specs.declared.outcome.Outcome.TheVariants as outcome
use Rattle.volume_links.specs.Wanting.{KindFitsNow, KindHasManyZeros}
use Rattle.volume_links.proofs.stepping.perform.Goals as goal

pub link-requires-clause-fits : goal.link-requires-clause-fits
link-requires-clause-fits g c = subst FitsEdit c.in-Symlink.is c.requires.fits

pub link-requires-clause-affords : goal.link-requires-clause-affords
link-requires-clause-affords g c tells = subst (λ (k : KindEdit). KindAffords (capacity_of c.args.volume.now) k (g.P.SectorView.space c.args.space.now).content) (c.in-Symlink.is ∙ ap (λ (v : List ℕ). edit.Symlink c.in-Symlink.path v) (sym c.as_slice.ensures)) (c.requires.affords tells)

pub returns-in-Symlink-clause-answered : goal.returns-in-Symlink-clause-answered
returns-in-Symlink-clause-answered g c tells =
    subst (λ (k : KindEdit). IfOk c.link.result (λ (o : Outcome). KindStepsTo o (capacity_of c.args.volume.now) c.args.number k (g.P.SectorView.space c.args.space.now).content (g.P.SectorView.space c.link.new.space).content)) (sym (c.in-Symlink.is ∙ ap (λ (v : List ℕ). edit.Symlink c.in-Symlink.path v) (sym c.as_slice.ensures))) (c.link.ensures.answered tells)

pub write-requires-clause-fits : goal.write-requires-clause-fits
write-requires-clause-fits g c = subst FitsEdit c.in-ResourceWrite.is c.requires.fits

pub write-requires-clause-affords : goal.write-requires-clause-affords
write-requires-clause-affords g c tells = subst (λ (k : KindEdit). KindAffords (capacity_of c.args.volume.now) k (g.P.SectorView.space c.args.space.now).content) (c.in-ResourceWrite.is ∙ ap (λ (v : List ℕ). edit.ResourceWrite c.in-ResourceWrite.path c.in-ResourceWrite.from v) (sym c.as_slice-in-ResourceWrite.ensures)) (c.requires.affords tells)

pub write-requires-clause-uncut : goal.write-requires-clause-uncut
write-requires-clause-uncut g c tells =
    subst (λ (k : KindEdit). needs_cut_in (fork_of_edit k) (volume_of (g.P.SectorView.space c.args.space.now).content) (kind_data_of (tree_of (g.P.SectorView.space c.args.space.now).content) k) ≡ false) (c.in-ResourceWrite.is ∙ ap (λ (v : List ℕ). edit.ResourceWrite c.in-ResourceWrite.path c.in-ResourceWrite.from v) (sym c.as_slice-in-ResourceWrite.ensures)) (c.requires.uncut tells)

pub returns-in-ResourceWrite-clause-answered : goal.returns-in-ResourceWrite-clause-answered
returns-in-ResourceWrite-clause-answered g c tells =
    subst (λ (k : KindEdit). IfOk c.write.result (λ (o : Outcome). KindStepsTo o (capacity_of c.args.volume.now) c.args.number k (g.P.SectorView.space c.args.space.now).content (g.P.SectorView.space c.write.new.space).content)) (sym (c.in-ResourceWrite.is ∙ ap (λ (v : List ℕ). edit.ResourceWrite c.in-ResourceWrite.path c.in-ResourceWrite.from v) (sym c.as_slice-in-ResourceWrite.ensures))) (c.write.ensures.answered tells)

pub returns-in-ResourceRead-clause-answered : goal.returns-in-ResourceRead-clause-answered
returns-in-ResourceRead-clause-answered g c tells = refl

pub returns-in-ResourceRead-clause-place : goal.returns-in-ResourceRead-clause-place
returns-in-ResourceRead-clause-place g c tells = same_place (g.P.SectorView.space c.args.space.now).content (g.P.SectorView.space c.args.space.now).content refl

pub returns-in-ResourceRead-clause-filled : goal.returns-in-ResourceRead-clause-filled
returns-in-ResourceRead-clause-filled g c = filled_none (record c.args.volume.now { filling = None }) (g.P.SectorView.space c.args.space.now) refl

pub returns-in-ResourceRead-clause-frame : goal.returns-in-ResourceRead-clause-frame
returns-in-ResourceRead-clause-frame g c = unfilled g.met.P.SectorView.follows_refl c.requires.serves refl

-- ---- a commit comes first only before many zero blocks

pub link-requires-clause-now : goal.link-requires-clause-now
link-requires-clause-now g c tells =
    subst (λ (k : KindEdit). KindFitsNow (0 ∷ 0 ∷ 0 ∷ []) c.args.volume.now (g.P.SectorView.space c.args.space.now) k) (c.in-Symlink.is ∙ ap (λ (v : List ℕ). edit.Symlink c.in-Symlink.path v) (sym c.as_slice.ensures)) (c.requires.now tells)

pub write-requires-clause-now : goal.write-requires-clause-now
write-requires-clause-now g c tells =
    subst (λ (k : KindEdit). KindFitsNow (0 ∷ 0 ∷ 0 ∷ []) c.args.volume.now (g.P.SectorView.space c.args.space.now) k) (c.in-ResourceWrite.is ∙ ap (λ (v : List ℕ). edit.ResourceWrite c.in-ResourceWrite.path c.in-ResourceWrite.from v) (sym c.as_slice-in-ResourceWrite.ensures)) (c.requires.now tells)

pub returns-in-Symlink-clause-waits : goal.returns-in-Symlink-clause-waits
returns-in-Symlink-clause-waits g c tells = if_so _ _ c.link.result (λ it never same. absurd (never same)) (c.link.ensures.done tells)

pub returns-in-ResourceWrite-clause-waits : goal.returns-in-ResourceWrite-clause-waits
returns-in-ResourceWrite-clause-waits g c tells =
    subst (λ (k : KindEdit). IfOk c.write.result (λ (o : Outcome). o ≡ outcome.CommitFirst → KindHasManyZeros c.args.volume.now (g.P.SectorView.space c.args.space.now) k))
    (sym (c.in-ResourceWrite.is ∙ ap (λ (v : List ℕ). edit.ResourceWrite c.in-ResourceWrite.path c.in-ResourceWrite.from v) (sym c.as_slice-in-ResourceWrite.ensures))) (c.write.ensures.waits tells)

pub returns-in-ResourceRead-clause-waits : goal.returns-in-ResourceRead-clause-waits
returns-in-ResourceRead-clause-waits g c tells same = absurd (true≢false (sym (ap kind_only_reads c.in-ResourceRead.is) ∙ c.requires.changes))
