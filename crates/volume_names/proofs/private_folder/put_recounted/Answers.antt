use Rattle.std.proofs.Common.{◌≡◌, [], false, sym, ◌∙◌, subst}
use Rattle.std.specs.Prelude.{Option, IfSome}
use Rattle.cat_records.specs.Fits.{FitsRecord}
use Rattle.cat_records.specs.declared.record.CatRecord.{CatRecord}
use Rattle.btree_file.specs.State.{state_of}
use Rattle.catalog.specs.Entries.{IsOfKind}
use Rattle.catalog.specs.Rooms.{TakesUpdates}
use Rattle.hfs_volume.specs.Records.{id_in, is_thread}
use Rattle.volume_base.specs.Changing.{ReplacesRecord}
use Rattle.volume_names.specs.EditsLeft.{HasEditsLeft}
use Rattle.volume_names.specs.PrivateFolder.{RecountsFolder}
use Rattle.volume_base.proofs.FoundEntry.{ok_so}
use Rattle.volume_names.proofs.PrivateRecount.{recounted_some, recounts_folder}
use Rattle.volume_base.proofs.Replaced.{node_large}
use Rattle.volume_names.proofs.EditsLeft.{left_less, left_updated}
use Rattle.volume_base.proofs.Framed.{edits_none}
use Rattle.volume_names.proofs.private_folder.put_recounted.Goals as goal

pub replace-requires-clause-kind : goal.replace-requires-clause-kind
replace-requires-clause-kind g c = subst (λ (o : Option CatRecord). IfSome o (λ changed. is_thread changed ≡ false)) c.in-Some.is c.recounted.ensures.kind

pub replace-requires-clause-fits : goal.replace-requires-clause-fits
replace-requires-clause-fits g c = subst (λ (o : Option CatRecord). IfSome o (λ changed. FitsRecord changed)) c.in-Some.is (c.recounted.ensures.fits c.requires.fits)

pub replace-requires-clause-same_kind : goal.replace-requires-clause-same_kind
replace-requires-clause-same_kind g c = subst (λ (o : Option CatRecord). IfSome o (λ changed. IsOfKind changed c.args.entry.now.rec)) c.in-Some.is c.recounted.ensures.alike

pub returns-clause-counts : goal.returns-clause-counts
returns-clause-counts g c tells folder fits =
    ok_so (ReplacesRecord c.args.entry.now c.in-Some.rec c.args.volume.now c.replace.new.self (g.P.SectorView.space c.args.space.now).content (g.P.SectorView.space c.replace.new.space).content)
    (RecountsFolder (id_in c.args.entry.now.rec) c.args.up c.args.volume.now c.replace.new.self (g.P.SectorView.space c.args.space.now).content (g.P.SectorView.space c.replace.new.space).content)
    c.replace.result (c.replace.ensures.replaces tells)
    (λ r. recounts_folder c.args.up c.args.volume.now c.replace.new.self (g.P.SectorView.space c.args.space.now).content (g.P.SectorView.space c.replace.new.space).content c.args.entry.now c.in-Some.rec (c.requires.ready.there tells) folder
    (sym (c.recounted.ensures.same fits) ∙ c.in-Some.is) r)

pub returns-in_default-clause-counts : goal.returns-in_default-clause-counts
returns-in_default-clause-counts g c tells folder fits = absurd (recounted_some c.args.up c.args.entry.now.rec folder (sym (c.recounted.ensures.same fits) ∙ c.in_default.is))

pub returns-in_default-clause-edits : goal.returns-in_default-clause-edits
returns-in_default-clause-edits g c = edits_none _ g.met.P.SectorView.follows_refl c.requires.ready.stands

pub returns-in_default-clause-left : goal.returns-in_default-clause-left
returns-in_default-clause-left g c edits beside had = left_less c.args.volume.now (g.P.SectorView.space c.args.space.now) edits beside (λ tells. node_large c.args.volume.now (g.P.SectorView.space c.args.space.now) c.requires.ready.stands tells) had

pub returns-clause-left : goal.returns-clause-left
returns-clause-left g c edits beside had =
    let old = g.P.SectorView.space c.args.space.now in
    let new = g.P.SectorView.space c.replace.new.space in
    ok_so (TakesUpdates 0 1 516 (state_of [] c.args.volume.now.catalog.file old) (state_of [] c.replace.new.self.catalog.file new)) (HasEditsLeft edits beside c.replace.new.self new) c.replace.result (c.replace.ensures.updates [])
    (λ takes. left_updated c.args.volume.now c.replace.new.self old new edits beside (λ tells. node_large c.args.volume.now old c.requires.ready.stands tells) (c.replace.ensures.edits.ran.touches old.content).same.tells takes had)
