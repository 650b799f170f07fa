use Rattle.std.proofs.Common.{◌≡◌, false, sym, ◌∙◌, subst, refl}
use Rattle.std.specs.Prelude.{Option, IfSome}
use Rattle.cat_records.specs.Fits.{FitsRecord}
use Rattle.cat_records.specs.declared.record.CatRecord.{CatRecord}
use Rattle.catalog.specs.Entries.{IsOfKind}
use Rattle.catalog.proofs.RoomLaws.{updates_none}
use Rattle.btree_file.specs.State.{state_of}
use Rattle.hfs_volume.specs.Records.{id_in, is_thread}
use Rattle.volume_base.specs.Changing.{ReplacesRecord, TouchesFolder}
use Rattle.volume_base.proofs.FoundEntry.{ok_so}
use Rattle.volume_base.proofs.Recounting.{touched_some, touches_folder}
use Rattle.volume_base.proofs.UpdateRoom.{room_less}
use Rattle.volume_base.proofs.Framed.{edits_none}
use Rattle.volume_base.proofs.volume.Volume.put_touched.Goals as goal

pub replace-requires-clause-kind : goal.replace-requires-clause-kind
replace-requires-clause-kind g c = subst (λ (o : Option CatRecord). IfSome o (λ changed. is_thread changed ≡ false)) c.in-Some.is c.touched.ensures.kind

pub replace-requires-clause-fits : goal.replace-requires-clause-fits
replace-requires-clause-fits g c = subst (λ (o : Option CatRecord). IfSome o (λ changed. FitsRecord changed)) c.in-Some.is (c.touched.ensures.fits c.requires.fits)

pub replace-requires-clause-same_kind : goal.replace-requires-clause-same_kind
replace-requires-clause-same_kind g c = subst (λ (o : Option CatRecord). IfSome o (λ changed. IsOfKind changed c.args.entry.now.rec)) c.in-Some.is c.touched.ensures.alike

pub returns-clause-counts : goal.returns-clause-counts
returns-clause-counts g c tells folder fits =
    ok_so (ReplacesRecord c.args.entry.now c.in-Some.rec c.args.self.now c.replace.new.self (g.P.SectorView.space c.args.space.now).content (g.P.SectorView.space c.replace.new.space).content)
    (TouchesFolder (id_in c.args.entry.now.rec) c.args.up c.args.down c.args.self.now c.replace.new.self (g.P.SectorView.space c.args.space.now).content (g.P.SectorView.space c.replace.new.space).content)
    c.replace.result (c.replace.ensures.replaces tells)
    (λ r. touches_folder c.args.self.now.header.modify_date c.args.up c.args.down c.args.self.now c.replace.new.self (g.P.SectorView.space c.args.space.now).content (g.P.SectorView.space c.replace.new.space).content c.args.entry.now c.in-Some.rec refl (c.requires.ready.there tells) folder
    (sym (c.touched.ensures.same fits) ∙ c.in-Some.is) r)

pub returns-in_default-clause-counts : goal.returns-in_default-clause-counts
returns-in_default-clause-counts g c tells folder fits = absurd (touched_some c.args.self.now.header.modify_date c.args.up c.args.down c.args.entry.now.rec folder (sym (c.touched.ensures.same fits) ∙ c.in_default.is))

pub returns-in_default-clause-room : goal.returns-in_default-clause-room
returns-in_default-clause-room g c many room = room_less many c.args.self.now (g.P.SectorView.space c.args.space.now) room

pub returns-in_default-clause-edits : goal.returns-in_default-clause-edits
returns-in_default-clause-edits g c = edits_none _ g.met.P.SectorView.follows_refl c.requires.ready.stands

pub returns-in_default-clause-updates : goal.returns-in_default-clause-updates
returns-in_default-clause-updates g c names = updates_none 0 1 516 (state_of names c.args.self.now.catalog.file (g.P.SectorView.space c.args.space.now))

pub returns-clause-updates : goal.returns-clause-updates
returns-clause-updates g c = c.replace.ensures.updates
