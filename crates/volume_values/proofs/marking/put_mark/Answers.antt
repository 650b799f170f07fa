use Rattle.std.proofs.Common.{◌≡◌, false, sym, ◌∙◌, subst}
use Rattle.std.specs.Prelude.{Option, IfSome}
use Rattle.cat_records.specs.Fits.{FitsRecord}
use Rattle.cat_records.specs.declared.record.CatRecord.{CatRecord}
use Rattle.hfs_volume.specs.Records.{is_thread}
use Rattle.volume_base.specs.Attributing.{MarksEntry}
use Rattle.volume_base.specs.Changing.{ReplacesRecord}
use Rattle.volume_base.proofs.FoundEntry.{ok_so}
use Rattle.volume_base.proofs.Marked.{mark_kind, mark_some}
use Rattle.volume_base.proofs.Framed.{edits_none}
use Rattle.volume_values.proofs.marking.put_mark.Goals as goal

pub replace-requires-clause-kind : goal.replace-requires-clause-kind
replace-requires-clause-kind g c = subst (λ (o : Option CatRecord). IfSome o (λ changed. is_thread changed ≡ false)) c.in-Some.is c.with_mark.ensures.kind

pub replace-requires-clause-fits : goal.replace-requires-clause-fits
replace-requires-clause-fits g c = subst (λ (o : Option CatRecord). IfSome o (λ changed. FitsRecord changed)) c.in-Some.is (c.with_mark.ensures.fits c.requires.fits)

pub replace-requires-clause-same_kind : goal.replace-requires-clause-same_kind
replace-requires-clause-same_kind g c = mark_kind c.args.has c.args.volume.now.header.modify_date c.args.entry.now.rec c.in-Some.rec (sym c.with_mark.ensures.same ∙ c.in-Some.is)

pub returns-clause-marks : goal.returns-clause-marks
returns-clause-marks g c tells kind =
    ok_so (ReplacesRecord c.args.entry.now c.in-Some.rec c.args.volume.now c.replace.new.self (g.P.SectorView.space c.args.space.now).content (g.P.SectorView.space c.replace.new.space).content)
    (MarksEntry c.args.has c.args.volume.now.header.modify_date c.args.entry.now c.args.volume.now c.replace.new.self (g.P.SectorView.space c.args.space.now).content (g.P.SectorView.space c.replace.new.space).content)
    c.replace.result (c.replace.ensures.replaces tells) (λ r. record { rec = c.in-Some.rec; made = sym c.with_mark.ensures.same ∙ c.in-Some.is; replaces = r })

pub returns-in_default-clause-marks : goal.returns-in_default-clause-marks
returns-in_default-clause-marks g c tells kind = absurd (mark_some c.args.has c.args.volume.now.header.modify_date c.args.entry.now.rec kind (sym c.with_mark.ensures.same ∙ c.in_default.is))

pub returns-in_default-clause-edits : goal.returns-in_default-clause-edits
returns-in_default-clause-edits g c = edits_none _ g.met.P.SectorView.follows_refl c.requires.ready.stands
