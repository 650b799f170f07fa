use Rattle.std.proofs.Common.{ℕ, List, [], ◌∷◌, length, refl, sym, ◌∙◌, ap, subst}
use Rattle.std.specs.Prelude.{IfOk}
use Rattle.hfs_language.specs.Written.{FitsPath}
use Rattle.hfs_model.specs.declared.kinds.KindEdit.TheVariants as edit
use Rattle.volume_base.specs.Room.{capacity_of}
use Rattle.volume_values.proofs.Spilling.{spills_none}
use Rattle.volume_step.specs.declared.outcome.Outcome.{Outcome}
use Rattle.volume_step.proofs.Done.{same_place}
use Rattle.volume_links.specs.Steps.{KindAffords, KindStepsNow}
use Rattle.hfs_volume.specs.TreeOf.{tree_of}
use Rattle.volume_links.specs.Wanting.{KindFitsNow}
use Rattle.volume_links.proofs.LinkFine.{some_path}
use Rattle.volume_links.proofs.symlinks.make_link.Goals as goal

pub link_under-requires-clause-fits : goal.link_under-requires-clause-fits
link_under-requires-clause-fits g c = subst FitsPath (sym (sym c.in-Some.ensures.cases.0 ∙ c.as_slice.ensures)) c.requires.fits

pub link_under-requires-clause-affords : goal.link_under-requires-clause-affords
link_under-requires-clause-affords g c tells = subst (λ (p : List (List ℕ)). KindAffords (capacity_of c.args.volume.now) (edit.Symlink p c.args.target.now) (g.P.SectorView.space c.args.space.now).content) (sym (sym c.in-Some.ensures.cases.0 ∙ c.as_slice.ensures)) (c.requires.affords tells)

pub returns-in-Some-clause-answered : goal.returns-in-Some-clause-answered
returns-in-Some-clause-answered g c tells =
    subst (λ (p : List (List ℕ)). IfOk c.link_under.result (λ (o : Outcome). KindStepsNow o (capacity_of c.args.volume.now) c.args.number (edit.Symlink p c.args.target.now) (g.P.SectorView.space c.args.space.now).content (g.P.SectorView.space c.link_under.new.space).content)) (sym c.in-Some.ensures.cases.0 ∙ c.as_slice.ensures) (c.link_under.ensures.answered tells)

pub returns-in-None-clause-answered : goal.returns-in-None-clause-answered
returns-in-None-clause-answered g c tells = refl

pub returns-in-None-clause-place : goal.returns-in-None-clause-place
returns-in-None-clause-place g c tells = same_place (g.P.SectorView.space c.args.space.now).content (g.P.SectorView.space c.args.space.now).content refl

pub returns-in-None-clause-serves : goal.returns-in-None-clause-serves
returns-in-None-clause-serves g c = c.requires.serves

pub returns-in-None-clause-spills : goal.returns-in-None-clause-spills
returns-in-None-clause-spills g c = spills_none g.met.P.SectorView.follows_refl c.requires.serves.stands

-- ---- no commit comes first

pub link_under-requires-clause-now : goal.link_under-requires-clause-now
link_under-requires-clause-now g c tells =
    subst (λ (p : List (List ℕ)). KindFitsNow (0 ∷ 0 ∷ 0 ∷ []) c.args.volume.now (g.P.SectorView.space c.args.space.now) (edit.Symlink p c.args.target.now)) (sym (sym c.in-Some.ensures.cases.0 ∙ c.as_slice.ensures)) (c.requires.now tells)

pub returns-in-Some-clause-done : goal.returns-in-Some-clause-done
returns-in-Some-clause-done g c tells = c.link_under.ensures.done tells

pub returns-in-None-clause-done : goal.returns-in-None-clause-done
returns-in-None-clause-done g c tells = absurd (some_path (tree_of (g.P.SectorView.space c.args.space.now).content) c.args.path.now c.args.target.now (c.requires.affords tells).no_refusal (ap (λ (p : List (List ℕ)). length p) (sym c.as_slice.ensures) ∙ c.in-None.ensures.cases))
