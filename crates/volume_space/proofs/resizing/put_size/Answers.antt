use Rattle.std.proofs.Common.{◌≡◌, false, sym, ◌∙◌, subst}
use Rattle.std.specs.Prelude.{Option, IfSome}
use Rattle.cat_records.specs.Fits.{FitsRecord}
use Rattle.cat_records.specs.declared.record.CatRecord.{CatRecord}
use Rattle.hfs_volume.specs.Records.{is_thread}
use Rattle.catalog.specs.Entries.{IsOfKind}
use Rattle.volume_base.specs.Changing.{ReplacesRecord}
use Rattle.volume_space.specs.Resizing.{SetsSize}
use Rattle.volume_base.proofs.FoundEntry.{ok_so}
use Rattle.volume_space.proofs.ShortenedCalls.{size_some}
use Rattle.volume_base.proofs.Framed.{edits_none}
use Rattle.volume_space.proofs.resizing.put_size.Goals as goal

pub replace-requires-clause-kind : goal.replace-requires-clause-kind
replace-requires-clause-kind g c = subst (λ (o : Option CatRecord). IfSome o (λ changed. is_thread changed ≡ false)) c.in-Some.is c.with_size.ensures.kind

pub replace-requires-clause-fits : goal.replace-requires-clause-fits
replace-requires-clause-fits g c = subst (λ (o : Option CatRecord). IfSome o (λ changed. FitsRecord changed)) c.in-Some.is (c.with_size.ensures.fits c.requires.fits)

pub replace-requires-clause-same_kind : goal.replace-requires-clause-same_kind
replace-requires-clause-same_kind g c = subst (λ (o : Option CatRecord). IfSome o (λ changed. IsOfKind changed c.args.entry.now.rec)) c.in-Some.is c.with_size.ensures.alike

pub returns-clause-sets : goal.returns-clause-sets
returns-clause-sets g c tells kind =
    ok_so (ReplacesRecord c.args.entry.now c.in-Some.rec c.args.volume.now c.replace.new.self (g.P.SectorView.space c.args.space.now).content (g.P.SectorView.space c.replace.new.space).content)
    (SetsSize c.args.volume.now.header.modify_date c.args.size c.args.entry.now c.args.volume.now c.replace.new.self (g.P.SectorView.space c.args.space.now).content (g.P.SectorView.space c.replace.new.space).content)
    c.replace.result (c.replace.ensures.replaces tells) (λ r. record { rec = c.in-Some.rec; made = sym c.with_size.ensures.same ∙ c.in-Some.is; replaces = r })

pub returns-in_default-clause-sets : goal.returns-in_default-clause-sets
returns-in_default-clause-sets g c tells kind = absurd (size_some c.args.volume.now.header.modify_date c.args.size c.args.entry.now.rec kind (sym c.with_size.ensures.same ∙ c.in_default.is))

pub returns-in_default-clause-edits : goal.returns-in_default-clause-edits
returns-in_default-clause-edits g c = edits_none _ g.met.P.SectorView.follows_refl c.requires.ready.stands
