use Rattle.std.proofs.Common.{◌≡◌, false, sym, ◌∙◌, subst, refl}
use Rattle.std.specs.Prelude.{Option, IfSome}
use Rattle.cat_records.specs.Fits.{FitsRecord}
use Rattle.cat_records.specs.declared.record.CatRecord.{CatRecord}
use Rattle.catalog.specs.Entries.{IsOfKind}
use Rattle.hfs_volume.specs.Records.{id_in, is_thread}
use Rattle.volume_base.specs.Changing.{ReplacesRecord}
use Rattle.volume_names.specs.Changing.{DatesEntry}
use Rattle.volume_base.proofs.FoundEntry.{ok_so}
use Rattle.volume_names.proofs.Redating.{dated_some, dates_entry}
use Rattle.volume_base.proofs.UpdateRoom.{room_less}
use Rattle.volume_base.proofs.Framed.{edits_none}
use Rattle.volume_names.proofs.stamping.put_dated.Goals as goal

pub replace-requires-clause-kind : goal.replace-requires-clause-kind
replace-requires-clause-kind g c = subst (λ (o : Option CatRecord). IfSome o (λ changed. is_thread changed ≡ false)) c.in-Some.is c.dated.ensures.kind

pub replace-requires-clause-fits : goal.replace-requires-clause-fits
replace-requires-clause-fits g c = subst (λ (o : Option CatRecord). IfSome o (λ changed. FitsRecord changed)) c.in-Some.is (c.dated.ensures.fits c.requires.fits)

pub replace-requires-clause-same_kind : goal.replace-requires-clause-same_kind
replace-requires-clause-same_kind g c = subst (λ (o : Option CatRecord). IfSome o (λ changed. IsOfKind changed c.args.entry.now.rec)) c.in-Some.is c.dated.ensures.alike

pub returns-clause-dates : goal.returns-clause-dates
returns-clause-dates g c tells kind =
    ok_so (ReplacesRecord c.args.entry.now c.in-Some.rec c.args.volume.now c.replace.new.self (g.P.SectorView.space c.args.space.now).content (g.P.SectorView.space c.replace.new.space).content)
    (DatesEntry (id_in c.args.entry.now.rec) c.args.volume.now c.replace.new.self (g.P.SectorView.space c.args.space.now).content (g.P.SectorView.space c.replace.new.space).content)
    c.replace.result (c.replace.ensures.replaces tells)
    (λ r. dates_entry c.args.volume.now.header.modify_date c.args.volume.now c.replace.new.self (g.P.SectorView.space c.args.space.now).content (g.P.SectorView.space c.replace.new.space).content c.args.entry.now c.in-Some.rec refl (c.requires.ready.there tells) kind
    (sym c.dated.ensures.same ∙ c.in-Some.is) r)

pub returns-in_default-clause-dates : goal.returns-in_default-clause-dates
returns-in_default-clause-dates g c tells kind = absurd (dated_some c.args.volume.now.header.modify_date c.args.entry.now.rec kind (sym c.dated.ensures.same ∙ c.in_default.is))

pub returns-in_default-clause-edits : goal.returns-in_default-clause-edits
returns-in_default-clause-edits g c = edits_none _ g.met.P.SectorView.follows_refl c.requires.ready.stands

pub returns-in_default-clause-room : goal.returns-in_default-clause-room
returns-in_default-clause-room g c many room = room_less many c.args.volume.now (g.P.SectorView.space c.args.space.now) room
