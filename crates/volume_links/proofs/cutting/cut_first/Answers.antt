use Rattle.std.proofs.Common.{◌≡◌, ℕ, List, refl, sym, ◌∙◌, ap, subst}
use Rattle.std.specs.Prelude.{IfOk}
use Rattle.hfs_model.specs.declared.kinds.KindEdit.{KindEdit}
use Rattle.hfs_model.specs.declared.kinds.KindEdit.TheVariants as edit
use Rattle.volume_base.specs.Keeping.{shrunk_of}
use Rattle.volume_base.specs.Room.{capacity_of}
use Rattle.volume_base.specs.declared.volume.Volume.{Volume}
use Rattle.volume_runs.specs.Fits.{FitsEdit}
use Rattle.volume_step.specs.declared.outcome.Outcome.{Outcome}
use Rattle.volume_step.specs.declared.outcome.Outcome.TheVariants as outcome
use Rattle.volume_step.proofs.Done.{same_place}
use Rattle.volume_step.proofs.Unfilled.{filled_none}
use Rattle.volume_links.specs.Steps.{KindStepsTo, KindWaitsForCut}
use Rattle.volume_links.specs.Wanting.{KindLacksRoomToCut}
use Rattle.volume_links.proofs.CutKinds.{read_waits}
use Rattle.volume_links.proofs.Dropping.{unfilled}
use Rattle.volume_links.proofs.Symlinked.{link_waits}
use Rattle.volume_links.proofs.cutting.cut_first.Goals as goal

pub returns-in-Symlink-clause-answered : goal.returns-in-Symlink-clause-answered
returns-in-Symlink-clause-answered g c tells = refl

pub returns-in-Symlink-clause-place : goal.returns-in-Symlink-clause-place
returns-in-Symlink-clause-place g c tells = same_place (g.P.SectorView.space c.args.space.now).content (g.P.SectorView.space c.args.space.now).content refl

pub returns-in-Symlink-clause-waits : goal.returns-in-Symlink-clause-waits
returns-in-Symlink-clause-waits g c tells same =
    let content = (g.P.SectorView.space c.args.space.now).content in
    absurd (link_waits content (c.requires.serves.settled tells).sound c.in-Symlink.path c.in-Symlink.value (subst (λ (k : KindEdit). KindWaitsForCut content k) c.in-Symlink.is (c.requires.waits tells)))

pub returns-in-Symlink-clause-filled : goal.returns-in-Symlink-clause-filled
returns-in-Symlink-clause-filled g c = filled_none c.drop_growth.new.volume (g.P.SectorView.space c.args.space.now) (ap (λ (v : Volume). v.filling) c.drop_growth.ensures)

pub returns-in-Symlink-clause-shrunk : goal.returns-in-Symlink-clause-shrunk
returns-in-Symlink-clause-shrunk g c = ap (λ (v : Volume). shrunk_of v) c.drop_growth.ensures

pub returns-in-Symlink-clause-frame : goal.returns-in-Symlink-clause-frame
returns-in-Symlink-clause-frame g c = unfilled g.met.P.SectorView.follows_refl c.requires.serves c.drop_growth.ensures

pub cut_resource-requires-clause-fits : goal.cut_resource-requires-clause-fits
cut_resource-requires-clause-fits g c = subst FitsEdit c.in-ResourceWrite.is c.requires.fits

pub cut_resource-requires-clause-waits : goal.cut_resource-requires-clause-waits
cut_resource-requires-clause-waits g c tells =
    subst (λ (k : KindEdit). KindWaitsForCut (g.P.SectorView.space c.args.space.now).content k) (c.in-ResourceWrite.is ∙ ap (λ (v : List ℕ). edit.ResourceWrite c.in-ResourceWrite.path c.in-ResourceWrite.from v) (sym c.as_slice.ensures)) (c.requires.waits tells)

pub returns-in-ResourceWrite-clause-answered : goal.returns-in-ResourceWrite-clause-answered
returns-in-ResourceWrite-clause-answered g c tells =
    subst (λ (k : KindEdit). IfOk c.cut_resource.result (λ (o : Outcome). KindStepsTo o (capacity_of c.args.volume.now) c.args._number k (g.P.SectorView.space c.args.space.now).content (g.P.SectorView.space c.cut_resource.new.space).content))
    (ap (λ (v : List ℕ). edit.ResourceWrite c.in-ResourceWrite.path c.in-ResourceWrite.from v) c.as_slice.ensures ∙ sym c.in-ResourceWrite.is) (c.cut_resource.ensures.answered tells)

pub returns-in-ResourceWrite-clause-waits : goal.returns-in-ResourceWrite-clause-waits
returns-in-ResourceWrite-clause-waits g c tells =
    subst (λ (k : KindEdit). IfOk c.cut_resource.result (λ (o : Outcome). o ≡ outcome.CommitFirst → KindLacksRoomToCut c.args.volume.now (g.P.SectorView.space c.args.space.now) k))
    (ap (λ (v : List ℕ). edit.ResourceWrite c.in-ResourceWrite.path c.in-ResourceWrite.from v) c.as_slice.ensures ∙ sym c.in-ResourceWrite.is) (c.cut_resource.ensures.waits tells)

pub returns-in-ResourceRead-clause-answered : goal.returns-in-ResourceRead-clause-answered
returns-in-ResourceRead-clause-answered g c tells = refl

pub returns-in-ResourceRead-clause-place : goal.returns-in-ResourceRead-clause-place
returns-in-ResourceRead-clause-place g c tells = same_place (g.P.SectorView.space c.args.space.now).content (g.P.SectorView.space c.args.space.now).content refl

pub returns-in-ResourceRead-clause-waits : goal.returns-in-ResourceRead-clause-waits
returns-in-ResourceRead-clause-waits g c tells same =
    let content = (g.P.SectorView.space c.args.space.now).content in
    absurd (read_waits content c.in-ResourceRead.path c.in-ResourceRead.from c.in-ResourceRead.length (subst (λ (k : KindEdit). KindWaitsForCut content k) c.in-ResourceRead.is (c.requires.waits tells)))

pub returns-in-ResourceRead-clause-filled : goal.returns-in-ResourceRead-clause-filled
returns-in-ResourceRead-clause-filled g c = filled_none c.drop_growth-in-ResourceRead.new.volume (g.P.SectorView.space c.args.space.now) (ap (λ (v : Volume). v.filling) c.drop_growth-in-ResourceRead.ensures)

pub returns-in-ResourceRead-clause-shrunk : goal.returns-in-ResourceRead-clause-shrunk
returns-in-ResourceRead-clause-shrunk g c = ap (λ (v : Volume). shrunk_of v) c.drop_growth-in-ResourceRead.ensures

pub returns-in-ResourceRead-clause-frame : goal.returns-in-ResourceRead-clause-frame
returns-in-ResourceRead-clause-frame g c = unfilled g.met.P.SectorView.follows_refl c.requires.serves c.drop_growth-in-ResourceRead.ensures
