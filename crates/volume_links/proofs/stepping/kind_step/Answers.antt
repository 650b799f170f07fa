use Rattle.std.proofs.Common.{sym, ap, subst}
use Rattle.std.specs.Prelude.{IfOk}
use Rattle.hfs_model.specs.declared.kinds.KindEdit.{KindEdit}
use Rattle.hfs_volume.specs.KindWeight.{kind_only_reads}
use Rattle.volume_base.proofs.Seeing.{if_so}
use Rattle.volume_base.specs.Room.{capacity_of}
use Rattle.volume_runs.specs.Fits.{FitsEdit}
use Rattle.volume_step.specs.declared.outcome.Outcome.{Outcome}
use Rattle.volume_links.specs.Steps.{KindStepsTo}
use Rattle.volume_links.proofs.AnewKind.{wants_none}
use Rattle.volume_links.proofs.Waiting.{waits_never}
use Rattle.volume_links.proofs.stepping.kind_step.Goals as goal

pub read-requires-clause-fits : goal.read-requires-clause-fits
read-requires-clause-fits g c = subst FitsEdit c.in-ResourceRead.is c.requires.fits

pub change-requires-clause-changes : goal.change-requires-clause-changes
change-requires-clause-changes g c = ap kind_only_reads c.in-Symlink.is

pub change-requires-in-ResourceWrite-clause-changes : goal.change-requires-in-ResourceWrite-clause-changes
change-requires-in-ResourceWrite-clause-changes g c = ap kind_only_reads c.in-ResourceWrite.is

pub returns-in-ResourceRead-clause-answered : goal.returns-in-ResourceRead-clause-answered
returns-in-ResourceRead-clause-answered g c tells =
    subst (λ (k : KindEdit). IfOk c.read.result (λ (o : Outcome). KindStepsTo o (capacity_of c.args.volume.now) c.args.number k (g.P.SectorView.space c.args.space.now).content (g.P.SectorView.space c.read.new.space).content)) (sym c.in-ResourceRead.is) (c.read.ensures.answered tells)

pub returns-in-ResourceRead-clause-waits : goal.returns-in-ResourceRead-clause-waits
returns-in-ResourceRead-clause-waits g c tells = waits_never c.args.volume.now (g.P.SectorView.space c.args.space.now) c.args.edit.now c.read.result c.read.ensures.done

pub returns-in-ResourceRead-clause-short : goal.returns-in-ResourceRead-clause-short
returns-in-ResourceRead-clause-short g c tells needs = if_so _ _ c.read.result (λ it never same. absurd (never same)) c.read.ensures.done

-- ---- on a transaction to which nothing was put

pub returns-in-ResourceRead-clause-anew : goal.returns-in-ResourceRead-clause-anew
returns-in-ResourceRead-clause-anew g c tells anew fits = c.read.ensures.done

pub returns-in-Symlink-clause-anew : goal.returns-in-Symlink-clause-anew
returns-in-Symlink-clause-anew g c tells anew fits =
    if_so _ _ c.change.result (λ it wants same. wants_none c.args.volume.now (g.P.SectorView.space c.args.space.now) (c.requires.serves.settled tells) anew c.args.edit.now (ap kind_only_reads c.in-Symlink.is) fits (wants same)) (c.change.ensures.waits tells)

pub returns-in-ResourceWrite-clause-anew : goal.returns-in-ResourceWrite-clause-anew
returns-in-ResourceWrite-clause-anew g c tells anew fits =
    if_so _ _ c.change-in-ResourceWrite.result (λ it wants same. wants_none c.args.volume.now (g.P.SectorView.space c.args.space.now) (c.requires.serves.settled tells) anew c.args.edit.now (ap kind_only_reads c.in-ResourceWrite.is) fits (wants same)) (c.change-in-ResourceWrite.ensures.waits tells)
